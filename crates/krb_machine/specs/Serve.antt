-- The end of a call of `serve`, and the octets that it has read and written then.
use Rattle.std.specs.Prelude.{◌≡◌, ◌≤◌, ◌+◌, ◌⊎◌, [], List, ℕ, Option, Some, IfSome, length, is_some, if◌then◌else◌}
use Rattle.std.specs.Io.KnownBytes.{Appends, Consumes}
use Rattle.krb_text.specs.Limits.{max_line, max_input}
use Rattle.krb_text.specs.Lines.{cut}
use Rattle.krb_text.specs.Output.{IsFront}
use Rattle.krb_script.specs.Script.{Declared, Reading, reading_at, reading_of}
use Rattle.krb_script.specs.declared.stop.Stop.{Stop}
use Rattle.krb_script.specs.declared.stop.Stop.TheVariants.{Whole, Bad, Long}
use Rattle.krb_text.specs.declared.status.Status.{Status}
use Rattle.krb_text.specs.declared.status.Status.TheVariants.{Done, BadWords, BadLine, TooLong, ReadFault, WriteFault, OutOfMemory}
use Rattle.krb_replay.specs.History.{History}
use Rattle.krb_machine.specs.Policy.{State}
use Rattle.krb_machine.specs.declared.reply.Reply.{Reply}
use Rattle.krb_machine.specs.Text.{Answered, IsText, IsStopped}

-- the status that goes with the end of a reading
abbrev pub status_of : Stop → Declared → Status
status_of Whole so_far = if is_some so_far.setup.skew then Done else BadLine
status_of Bad so_far = BadLine
status_of Long so_far = TooLong

abbrev pub end_of : List ℕ → Status
end_of input = status_of (reading_of input).stop (reading_of input).so_far

-- the reading of the lines with a 0A among the octets that were taken
abbrev pub whole_reading : List ℕ → Reading
whole_reading taken = reading_at (length taken) (cut taken).whole

-- no whole line is bad, and no line is past a limit
abbrev pub IsSound : List ℕ → Type 0
IsSound taken = ((whole_reading taken).stop ≡ Whole) × (length (cut taken).rest ≤ max_line) × (length taken ≤ max_input)

-- the text that is written if a write failed: a front of a text of the other statuses
abbrev pub IsCutShort : List ℕ → List ℕ → Type 0
IsCutShort input written = (whole : List ℕ) × IsFront written whole × (IsText input whole ⊎ IsStopped input whole)

-- the octets taken of this input and the text written for it, by the status
abbrev pub Written : List ℕ → List ℕ → Status → List ℕ → Type 0
Written input taken Done written = (end_of input ≡ Done) × IsText input written × (taken ≡ input)
Written input taken BadLine written = (end_of input ≡ BadLine) × IsText input written
Written input taken TooLong written = (end_of input ≡ TooLong) × IsText input written
Written input taken ReadFault written = IsSound taken
    × ((replies : List Reply) × (after : State History) × Answered (whole_reading taken).so_far written replies after)
Written input taken WriteFault written = IsCutShort input written
Written input taken OutOfMemory written = IsStopped input written
Written input taken BadWords written = (taken ≡ []) × (written ≡ [])

-- a front of the input is taken, of which no more is looked at than one octet past the limit
abbrev pub IsTaken : List ℕ → Option (List ℕ) → List ℕ → Type 0
IsTaken input left_after taken = Consumes (Some input) left_after taken × (length taken ≤ max_input + 1)

-- a front of the input that the source had left is taken, and the sink has taken the text that the status allows, if the octets of
-- both are known
abbrev pub Serves : Option (List ℕ) → Option (List ℕ) → Option (List ℕ) → Option (List ℕ) → Status → Type 0
Serves left left_after before after status =
    IfSome left (λ input. (taken written : List ℕ) × IsTaken input left_after taken × Appends before after written × Written input taken status written)
