-- The view of a desk in contracts, and the effect of a call on a desk.
use Rattle.std.specs.Prelude.{◌≡◌, ℕ, ◌+◌, ◌-◌, List, [], ◌∷◌, ◌++◌, length}
use Rattle.std.proofs.Common.{subst}
use Rattle.krb_replay.specs.declared.ask.Ask.{Ask}
use Rattle.krb_replay.specs.declared.ask.Verdict.{Verdict}
use Rattle.krb_replay.specs.History.{History, verdict_of}
use Rattle.krb_replay.specs.Book.{Book, StandsFor}
use Rattle.krb_replay.specs.Gate.{IsJudged}
use Rattle.krb_shared.specs.declared.entry.Entry.{Entry}
use Rattle.krb_shared.specs.Journal.{history_of, IsLegal}

-- the skew in seconds, and the journal
pub record Desk : Type 0 where
  pub skew : ℕ
  pub journal : List Entry

-- the history of the book that never forgets, after the journal
abbrev pub history : Desk → History
history desk = history_of desk.skew desk.journal

-- the invariant of a desk: its journal is legal, and its book represents the journal's history
pub record IsKept (book : Book) (journal : List Entry) : Type 0 where
  pub legal : IsLegal book.skew journal
  pub stands : StandsFor book (history_of book.skew journal)

-- a call is answered as the book that never forgets answers after the journal, and is the journal's last entry then
pub record AdmitsAs (old : Desk) (seat call : ℕ) (ask : Ask) (verdict : Verdict) (new : Desk) : Type 0 where
  pub skew : new.skew ≡ old.skew
  pub answer : verdict ≡ verdict_of old.skew (history old) ask
  pub entry : new.journal ≡ old.journal ++ record { seat = seat; call = call; ask = ask; verdict = verdict } ∷ []

-- what contracts see of a gate over a desk: the desk, the gate's seat, and how many entries the journal had before the
-- gate's first
pub record Gate : Type 0 where
  pub desk : Desk
  pub seat : ℕ
  pub before : ℕ

abbrev pub gate_of : Desk → ℕ → ℕ → Gate
gate_of desk seat before = record { desk = desk; seat = seat; before = before }

-- the number of the gate's next call: it has made those that the journal has gained
abbrev pub next_call : Gate → ℕ
next_call gate = length gate.desk.journal - gate.before + 1

-- a call of the gate is the desk's, in the name of the seat and with the gate's next number. The verdict is one at the moment
-- that the desk then has
pub record AdmitsNext (old : Gate) (ask : Ask) (verdict : Verdict) (new : Gate) : Type 0 where
  pub step : AdmitsAs old.desk old.seat (next_call old) ask verdict new.desk
  pub judged : IsJudged old.desk.skew (history new.desk).moment ask verdict
  pub seat : new.seat ≡ old.seat
  pub before : new.before ≡ old.before

pub same_goes_on : (a : Desk) (s n : ℕ) (b : Desk) (t m : ℕ) (ask : Ask) (verdict : Verdict) (c : Gate) → (b ≡ a) × (t ≡ s) × (m ≡ n)
    → AdmitsNext (record { desk = b; seat = t; before = m }) ask verdict c → AdmitsNext (record { desk = a; seat = s; before = n }) ask verdict c
same_goes_on a s n b t m ask verdict c same step =
    subst (λ (d : Desk). AdmitsNext (record { desk = d; seat = s; before = n }) ask verdict c) same.0 (
    subst (λ (k : ℕ). AdmitsNext (record { desk = b; seat = k; before = n }) ask verdict c) same.1 (
    subst (λ (k : ℕ). AdmitsNext (record { desk = b; seat = t; before = k }) ask verdict c) same.2 step))
