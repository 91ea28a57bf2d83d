-- The output of the demonstration.
use Rattle.std.specs.Prelude.{◌≡◌, ℕ, ◌-◌, ◌^◌, nat_lt, nat_le, ◌&&◌, List, ◌++◌, codes, length, Option, Some, None, option_and_then, if◌then◌else◌, IfSome}
use Rattle.std.specs.Fmt.{decimal}
use Rattle.std.specs.Io.KnownBytes.{Appends}
use Rattle.krb_demo.specs.Input.{demonstration}
use Rattle.krb_replay.specs.History.{History, window}
use Rattle.krb_text.specs.Decimals.{number_behind}
use Rattle.krb_text.specs.Output.{AppendsFront}
use Rattle.krb_script.specs.Script.{Declared, reading_of}
use Rattle.krb_script.specs.declared.stop.Stop.TheVariants.{Whole}
use Rattle.krb_text.specs.declared.status.Status.{Status}
use Rattle.krb_text.specs.declared.status.Status.TheVariants.{Done, BadWords, BadLine, TooLong, ReadFault, WriteFault, OutOfMemory}
use Rattle.krb_machine.specs.Policy.{State}
use Rattle.krb_machine.specs.Described.{skew_of}
use Rattle.krb_machine.specs.Reply.{replies_text, admissions}
use Rattle.krb_machine.specs.Text.{Answered}
use Rattle.krb_machine.specs.declared.reply.Reply.{Reply}

-- a demonstration has 1 to 10,000 events
abbrev pub event_count : ℕ → Option ℕ
event_count n = if nat_lt 0 n && nat_le n 10000 then Some n else None

-- the number of events that the words ask for: `demo` and a number
abbrev pub demo_number : List (List ℕ) → Option ℕ
demo_number words = option_and_then event_count (number_behind (codes "demo") (2 ^ 64 - 1) words)

abbrev pub demo_line : ℕ → ℕ → ℕ → List ℕ
demo_line n admitted kept = codes "demo " ++ decimal n ++ codes " " ++ decimal admitted ++ codes " " ++ decimal kept ++ codes "\n"

-- the line has the two numbers with which the text of the demonstration's input ends
pub record Counts (n : ℕ) (line : List ℕ) : Type 0 where
  pub so_far : Declared
  pub number : ℕ
  pub reading : reading_of (demonstration n) ≡ record { so_far = so_far; number = number; stop = Whole }
  pub replies : List Reply
  pub after : State History
  pub answered : Answered so_far (replies_text replies) replies after
  pub is : line ≡ demo_line n (admissions replies) (length (window (skew_of so_far.setup) after.gate))

-- the text that is written, by the status
abbrev pub Demonstrates : Option ℕ → Option (List ℕ) → Option (List ℕ) → Status → Type 0
Demonstrates number before after Done = IfSome number (λ n. (line : List ℕ) × Counts n line × Appends before after line)
Demonstrates number before after WriteFault = IfSome number (λ n. (line : List ℕ) × Counts n line × AppendsFront before after line)
Demonstrates number before after OutOfMemory = after ≡ before
Demonstrates number before after BadWords = number ≡ None
Demonstrates number before after BadLine = ⊥
Demonstrates number before after TooLong = ⊥
Demonstrates number before after ReadFault = ⊥
