-- The text that is written for an input.
use Rattle.std.specs.Prelude.{◌≡◌, ◌≤◌, ℕ, List, ◌++◌, codes, length, take, is_some, if◌then◌else◌}
use Rattle.std.specs.Fmt.{decimal}
pub use Rattle.krb_lines.specs.Text.{bad_line, long_line, stopped_line}
use Rattle.krb_script.specs.Script.{Setup, Declared, reading_of}
use Rattle.krb_script.specs.declared.stop.Stop.{Stop}
use Rattle.krb_script.specs.declared.stop.Stop.TheVariants.{Whole, Bad, Long}
use Rattle.krb_replay.specs.History.{History, window}
use Rattle.krb_machine.specs.Policy.{State, Runs}
use Rattle.krb_machine.specs.Described.{Remembers, skew_of, service_of}
use Rattle.krb_machine.specs.Reply.{replies_text, admissions}
use Rattle.krb_machine.specs.declared.reply.Reply.{Reply}

-- the last line of a whole input
abbrev pub end_line : ℕ → ℕ → List ℕ
end_line admissions records = codes "end " ++ decimal admissions ++ codes " " ++ decimal records ++ codes "\n"

-- the last line after these replies, with this history afterwards: how many events admitted their peer, and how many records are
-- in the window. If no line set the skew, the line after the last is bad
abbrev pub last_line : Stop → ℕ → Setup → List Reply → History → List ℕ
last_line Whole n setup replies h = if is_some setup.skew then end_line (admissions replies) (length (window (skew_of setup) h)) else bad_line n
last_line Bad n setup replies h = bad_line n
last_line Long n setup replies h = long_line n

-- a run of the service that the lines describe over the events that they declare, and the lines of its replies
pub record Answered (so_far : Declared) (text : List ℕ) (replies : List Reply) (after : State History) : Type 0 where
  pub runs : Runs (Remembers (skew_of so_far.setup)) (service_of so_far.setup) so_far.events replies after
  pub is : text ≡ replies_text replies

-- the text that answers an input: the replies to its events, up to its first bad or long line, and the last line
pub record IsText (input text : List ℕ) : Type 0 where
  pub front : List ℕ
  pub replies : List Reply
  pub after : State History
  pub answered : Answered (reading_of input).so_far front replies after
  pub is : text ≡ front ++ last_line (reading_of input).stop (reading_of input).number (reading_of input).so_far.setup replies after.gate

-- the first events of an input
abbrev pub first_events : ℕ → Declared → Declared
first_events t so_far = record { setup = so_far.setup; events = take t so_far.events }

-- the text if memory runs out: the replies to the first t events, and the number of these events
pub record IsStopped (input text : List ℕ) : Type 0 where
  pub t : ℕ
  pub few : t ≤ length (reading_of input).so_far.events
  pub front : List ℕ
  pub replies : List Reply
  pub after : State History
  pub answered : Answered (first_events t (reading_of input).so_far) front replies after
  pub is : text ≡ front ++ stopped_line t
