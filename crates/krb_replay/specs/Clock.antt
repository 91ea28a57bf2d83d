-- Refusal of an ask by the clock alone (RFC 4120 3.2.3).
use Rattle.std.specs.Prelude.{ℕ, ◌*◌, ℤ, pos, ◌+ℤ◌, ◌*ℤ◌, int_lt, Bool, not, ◌||◌, if◌then◌else◌, unwrap_or, Option, Some, None}
use Rattle.krb_replay.specs.declared.record.Record.{Record}
use Rattle.krb_replay.specs.declared.ask.Ask.{Ask}
use Rattle.krb_replay.specs.declared.ask.Verdict.{Verdict}
use Rattle.krb_replay.specs.declared.ask.Verdict.TheVariants.{Admitted, Skew, NotYet, Expired, Replayed}

-- a time, which is in seconds
abbrev pub in_microseconds : ℤ → ℤ
in_microseconds seconds = seconds *ℤ pos 1000000

-- whether a is later than b by more than the skew; a and b are in microseconds, and the skew in seconds
abbrev pub is_later : ℤ → ℤ → ℕ → Bool
is_later a b skew = int_lt (b +ℤ pos (skew * 1000000)) a

-- whether the record's time is at least the moment less the skew
abbrev pub is_current : ℕ → ℕ → Record → Bool
is_current skew moment entry = not (is_later (pos moment) (in_microseconds entry.ctime) skew)

-- what the clock refuses at this moment: the authenticator's time is off by more than the skew, in either direction; else
-- the ticket's life starts later than the moment by more than the skew; else it ended earlier by more than the skew
abbrev pub clock_refusal : ℕ → ℕ → Ask → Option Verdict
clock_refusal skew moment ask =
    if is_later (in_microseconds ask.entry.ctime) (pos moment) skew || is_later (pos moment) (in_microseconds ask.entry.ctime) skew then Some Skew
    else if is_later (in_microseconds ask.start) (pos moment) skew then Some NotYet
    else if is_later (pos moment) (in_microseconds ask.end) skew then Some Expired
    else None

-- the verdict at this moment, where `seen` says whether the record was admitted before
abbrev pub judged : ℕ → ℕ → Bool → Ask → Verdict
judged skew moment seen ask = unwrap_or (clock_refusal skew moment ask) (if seen then Replayed else Admitted)
