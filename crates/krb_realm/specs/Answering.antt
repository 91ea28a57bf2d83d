-- How a call of `answer` ends, and what it has read and written then.
use Rattle.std.specs.Prelude.{ℕ, List, Option, is_some}
use Rattle.krb_lines.specs.Answering.{AnswersLines}
use Rattle.krb_lines.specs.Rules.{Rules}
use Rattle.krb_text.specs.declared.status.Status.{Status}
use Rattle.krb_realm.specs.Progress.{Progress, new_progress, Takes, Refuses}
use Rattle.krb_realm.specs.Text.{end_line}

-- a line is taken or is bad as the lines before it say; the input may end once a line named the realm
abbrev pub line_rules : Rules Progress
line_rules = record {
  takes = Takes;
  refuses = Refuses;
  lines = λ progress. progress.lines;
  answered = λ progress. progress.answered;
  can_end = λ progress. is_some progress.realm;
  end_line = λ progress. end_line progress.answered;
}

-- a front of the input that the source had left is taken, and the sink has taken the text that the status allows, if the octets
-- of both are known
abbrev pub AnswersInput : Option (List ℕ) → Option (List ℕ) → Option (List ℕ) → Option (List ℕ) → Status → Type 0
AnswersInput left left_after before after status = AnswersLines line_rules new_progress left left_after before after status
