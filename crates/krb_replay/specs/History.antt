-- The book that never forgets (RFC 4120 3.2.3).
use Rattle.std.specs.Prelude.{ℕ, max, if◌then◌else◌, List, [], ◌∷◌, ◌++◌}
use Rattle.std.specs.List.{filter}
use Rattle.krb_replay.specs.declared.record.Record.{Record}
use Rattle.krb_replay.specs.declared.ask.Ask.{Ask}
use Rattle.krb_replay.specs.declared.ask.Verdict.{Verdict}
use Rattle.krb_replay.specs.Records.{has_record}
use Rattle.krb_replay.specs.Clock.{judged, is_current}
use Rattle.krb_replay.specs.Verdicts.{is_admitted}

-- the greatest moment asked so far, in microseconds, and the records that were admitted, in the order of the calls
pub record History : Type 0 where
  pub moment : ℕ
  pub admitted : List Record

abbrev pub no_history : History
no_history = record { moment = 0; admitted = [] }

-- the moment that an ask is judged by
abbrev pub moment_after : History → Ask → ℕ
moment_after h ask = max h.moment ask.moment

abbrev pub verdict_of : ℕ → History → Ask → Verdict
verdict_of skew h ask = judged skew (moment_after h ask) (has_record h.admitted ask.entry) ask

-- the records after this verdict on one
abbrev pub recorded : List Record → Record → Verdict → List Record
recorded records entry verdict = if is_admitted verdict then records ++ entry ∷ [] else records

abbrev pub history_after : ℕ → History → Ask → History
history_after skew h ask = record { moment = moment_after h ask; admitted = recorded h.admitted ask.entry (verdict_of skew h ask) }

-- the records whose time is at least the moment less the skew: those that a later ask can still repeat
abbrev pub window : ℕ → History → List Record
window skew h = filter (is_current skew h.moment) h.admitted
