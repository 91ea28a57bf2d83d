-- The rules by which a session takes lines.
use Rattle.std.specs.Prelude.{◌≤◌, Bool, ◌||◌, ℕ, length, Option, Some, None, is_some}
use Rattle.krb_lines.specs.Rules.{Rules}
use Rattle.krb_replay.specs.Book.{Book}
use Rattle.krb_machine.specs.Policy.{State}
use Rattle.krb_machine.specs.Text.{end_line}
use Rattle.krb_machine.specs.Progress.{Progress, Takes, Refuses}

-- there was a skew
abbrev pub has_begun : Progress → Bool
has_begun progress = is_some progress.service || is_some progress.setup.skew

-- how many records the replay book keeps: none before the first event
abbrev pub kept_by : Option (State Book) → ℕ
kept_by None = 0
kept_by (Some state) = length state.gate.kept

-- the lines before a line decide whether it is taken or bad; the input may end once a line has set the skew
abbrev pub line_rules : Rules Progress
line_rules = record {
  takes = Takes;
  refuses = Refuses;
  lines = λ progress. progress.lines;
  answered = λ progress. progress.answered;
  can_end = has_begun;
  end_line = λ progress. end_line progress.admitted (kept_by progress.service);
}

-- no more events were answered than lines taken, and no more events admitted their peer than were answered
abbrev pub IsModest : Progress → Type 0
IsModest progress = (progress.answered ≤ progress.lines) × (progress.admitted ≤ progress.answered)
