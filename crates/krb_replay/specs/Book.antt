-- The view of a replay book in contracts, and the histories that it represents.
use Rattle.std.specs.Prelude.{◌≡◌, refl, ℕ, ◌+◌, ◌≤◌, ◌<◌, List, length}
use Rattle.std.proofs.Common.{ap, sym, ◌∙◌, subst, arith}
use Rattle.krb_replay.specs.declared.record.Record.{Record}
use Rattle.krb_replay.specs.declared.ask.Ask.{Ask}
use Rattle.krb_replay.specs.declared.ask.Verdict.{Verdict}
use Rattle.krb_replay.specs.declared.ask.Verdict.TheVariants.{Admitted}
use Rattle.krb_replay.specs.Gate.{IsJudged}
use Rattle.krb_replay.specs.History.{History, verdict_of, history_after, window}
use Rattle.krb_replay.specs.Records.{IsDistinct}
use Rattle.krb_replay.specs.Order.{in_order}

-- the skew in seconds, the greatest moment asked so far in microseconds, the records that are kept, and the room that is left for more
pub record Book : Type 0 where
  pub skew : ℕ
  pub moment : ℕ
  pub kept : List Record
  pub spare : ℕ

-- one call answers as the book that never forgets does, for every history that the book represents, and leaves a book that
-- represents the history after it; for any history, the verdict is one that the new book's moment allows; the number of records
-- that the book has room for never falls
pub record Follows (Stands : Book → History → Type 0) (old : Book) (ask : Ask) (verdict : Verdict) (new : Book) : Type 0 where
  pub skew : new.skew ≡ old.skew
  pub answer : (h : History) → Stands old h → verdict ≡ verdict_of old.skew h ask
  pub history : (h : History) → Stands old h → Stands new (history_after old.skew h ask)
  pub judged : IsJudged old.skew new.moment ask verdict
  pub room : old.spare + length old.kept ≤ new.spare + length new.kept

-- nothing that a caller can observe has changed; there may be more room
pub record IsUnchanged (old new : Book) : Type 0 where
  pub skew : new.skew ≡ old.skew
  pub moment : new.moment ≡ old.moment
  pub kept : new.kept ≡ old.kept
  pub spare : old.spare ≤ new.spare

-- the book is at the history's moment, no record was admitted twice, and what is kept is exactly the window, in order
pub record StandsFor (book : Book) (h : History) : Type 0 where
  pub moment : book.moment ≡ h.moment
  pub distinct : IsDistinct h.admitted
  pub kept : book.kept ≡ in_order (window book.skew h)

-- the ask would be admitted, and the window would then hold more records than there is room for
pub record NeedsRoom (book : Book) (ask : Ask) : Type 0 where
  pub admitted : (h : History) → StandsFor book h → verdict_of book.skew h ask ≡ Admitted
  pub over : (h : History) → StandsFor book h → book.spare + length book.kept < length (window book.skew (history_after book.skew h ask))

pub IsUnchanged-same : (book : Book) → IsUnchanged book book
IsUnchanged-same book = record { skew = refl; moment = refl; kept = refl; spare = omega arith }

pub goes_on : (a b c : Book) (ask : Ask) (verdict : Verdict) → IsUnchanged a b → Follows StandsFor b ask verdict c → Follows StandsFor a ask verdict c
goes_on a b c ask verdict same step =
    let stands : (h : History) → StandsFor a h → StandsFor b h = λ h s. record {
      moment = same.moment ∙ s.moment;
      distinct = s.distinct;
      kept = same.kept ∙ s.kept ∙ ap (λ (k : ℕ). in_order (window k h)) (sym same.skew);
    } in
    record {
      skew = step.skew ∙ same.skew;
      answer = λ h s. step.answer h (stands h s) ∙ ap (λ (k : ℕ). verdict_of k h ask) same.skew;
      history = λ h s. subst (λ (k : ℕ). StandsFor c (history_after k h ask)) same.skew (step.history h (stands h s));
      judged = subst (λ (k : ℕ). IsJudged k c.moment ask verdict) same.skew step.judged;
      room = omega (arith, step.room, same.spare, ap length same.kept);
    }
