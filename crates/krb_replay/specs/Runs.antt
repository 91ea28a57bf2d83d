-- Lists of asks to the book that never forgets.
use Rattle.std.specs.Prelude.{ℕ, ◌≤◌, if◌then◌else◌, List, [], ◌∷◌, length}
use Rattle.krb_replay.specs.declared.record.Record.{Record}
use Rattle.krb_replay.specs.declared.ask.Ask.{Ask}
use Rattle.krb_replay.specs.declared.ask.Verdict.{Verdict}
use Rattle.krb_replay.specs.Verdicts.{is_admitted}
use Rattle.krb_replay.specs.History.{History, verdict_of, history_after, window}

-- the verdicts on these asks, one after another
abbrev pub verdicts_of : ℕ → History → List Ask → List Verdict
verdicts_of skew h [] = []
verdicts_of skew h (ask ∷ asks) = verdict_of skew h ask ∷ verdicts_of skew (history_after skew h ask) asks

-- the history after them
abbrev pub history_past : ℕ → History → List Ask → History
history_past skew h [] = h
history_past skew h (ask ∷ asks) = history_past skew (history_after skew h ask) asks

-- after none of the asks the window holds more than n records
abbrev pub IsNeverAbove : ℕ → ℕ → History → List Ask → Type 0
IsNeverAbove n skew h [] = Unit {0}
IsNeverAbove n skew h (ask ∷ asks) = (length (window skew (history_after skew h ask)) ≤ n) × IsNeverAbove n skew (history_after skew h ask) asks

-- the records of the asks that were answered Admitted
abbrev pub admitted_of : List Ask → List Verdict → List Record
admitted_of [] verdicts = []
admitted_of (ask ∷ asks) [] = []
admitted_of (ask ∷ asks) (verdict ∷ verdicts) = if is_admitted verdict then ask.entry ∷ admitted_of asks verdicts else admitted_of asks verdicts
