-- The end of a call of `threads`, and the octets that it has read and written then.
use Rattle.std.specs.Prelude.{◌≡◌, ◌⊎◌, [], List, ℕ, Option, IfSome}
use Rattle.std.specs.Io.KnownBytes.{Appends}
use Rattle.krb_text.specs.Output.{IsFront, AppendsFront}
use Rattle.krb_script.specs.Script.{Declared, reading_of}
use Rattle.krb_text.specs.declared.status.Status.{Status}
use Rattle.krb_text.specs.declared.status.Status.TheVariants.{Done, BadWords, BadLine, TooLong, ReadFault, WriteFault, OutOfMemory}
use Rattle.krb_input.specs.Taken.{IsSound, IsTaken}
use Rattle.krb_machine.specs.Serve.{end_of}
use Rattle.krb_machine.specs.Text.{bad_line, long_line, stopped_line}
use Rattle.krb_threads.specs.Answers.{IsAnswer}

-- the text of an input, by the status that goes with its reading: no event is run if a line is bad or long
abbrev pub IsTextAt : List ℕ → Status → List ℕ → Type 0
IsTextAt input Done text = IsAnswer (reading_of input).so_far text
IsTextAt input BadLine text = text ≡ bad_line (reading_of input).number
IsTextAt input TooLong text = text ≡ long_line (reading_of input).number
IsTextAt input ReadFault text = ⊥
IsTextAt input WriteFault text = ⊥
IsTextAt input OutOfMemory text = ⊥
IsTextAt input BadWords text = ⊥

abbrev pub IsText : List ℕ → List ℕ → Type 0
IsText input text = IsTextAt input (end_of input) text

-- the octets taken of this input and the text written for it, by the status
abbrev pub Written : List ℕ → List ℕ → Status → List ℕ → Type 0
Written input taken Done written = (end_of input ≡ Done) × IsText input written × (taken ≡ input)
Written input taken BadLine written = (end_of input ≡ BadLine) × IsText input written
Written input taken TooLong written = (end_of input ≡ TooLong) × IsText input written
Written input taken ReadFault written = IsSound taken × (written ≡ [])
Written input taken WriteFault written = (whole : List ℕ) × IsFront written whole × (IsText input whole ⊎ (whole ≡ stopped_line 0))
Written input taken OutOfMemory written = written ≡ stopped_line 0
Written input taken BadWords written = (taken ≡ []) × (written ≡ [])

-- a front of the input that the source had left is taken, and the sink has taken the text that the status allows, if the octets of
-- both are known
abbrev pub Runs : Option (List ℕ) → Option (List ℕ) → Option (List ℕ) → Option (List ℕ) → Status → Type 0
Runs left left_after before after status =
    IfSome left (λ input. (taken written : List ℕ) × IsTaken input left_after taken × Appends before after written × Written input taken status written)

-- the part that a sink has taken of the answer to the declarations, by the status
abbrev pub Answers : Declared → Option (List ℕ) → Option (List ℕ) → Status → Type 0
Answers so_far before after Done = (text : List ℕ) × IsAnswer so_far text × Appends before after text
Answers so_far before after OutOfMemory = Appends before after (stopped_line 0)
Answers so_far before after WriteFault = (whole : List ℕ) × (IsAnswer so_far whole ⊎ (whole ≡ stopped_line 0)) × AppendsFront before after whole
Answers so_far before after BadWords = ⊥
Answers so_far before after BadLine = ⊥
Answers so_far before after TooLong = ⊥
Answers so_far before after ReadFault = ⊥
