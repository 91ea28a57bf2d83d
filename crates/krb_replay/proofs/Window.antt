-- The pruned book and the window of the history.
use Rattle.std.proofs.Common.{◌≡◌, ℕ, ◌+◌, ◌<◌, ◌≤◌, max, ℤ, pos, ◌≤ℤ◌, ◌<ℤ◌, Bool, true, false, not, ◌&&◌, ◌||◌, cond, if◌then◌else◌, List, [], ◌∷◌, ◌++◌, length, drop, Option, Some, None, MatchOption, unwrap_or, Ordering, Less, Equal, Greater, refl, sym, ap, ◌∙◌, subst, arith}
use Rattle.std.proofs.lemmas.Bool.{false≢true}
use Rattle.std.proofs.lemmas.Int.{ints}
use Rattle.std.proofs.lemmas.Cmp.{int_ranked}
use Rattle.std.proofs.lemmas.List.Elements.{filter-append}
use Rattle.std.proofs.lemmas.List.Filters.{length-filter_both}
use Rattle.std.proofs.lemmas.List.Folds.{list_any-append}
use Rattle.std.proofs.lemmas.List.Sums.{fold-append}
use Rattle.std.proofs.lemmas.Map.Views.{any-filter_same}
use Rattle.std.specs.List.{filter}
use Rattle.std.specs.Ordering.{is_lt, int_cmp, ordering_then, MatchOrdering}
use Rattle.std.specs.Cmp.{signed_Decides, eq_by_cmp_equiv}
use Rattle.krb_replay.specs.declared.record.Record.{Record}
use Rattle.krb_replay.specs.declared.ask.Ask.{Ask}
use Rattle.krb_replay.specs.declared.ask.Verdict.{Verdict}
use Rattle.krb_replay.specs.declared.ask.Verdict.TheVariants.{Admitted, Skew, NotYet, Expired, Replayed}
use Rattle.krb_replay.specs.Records.{record_eq, record_cmp, has_record, IsDistinct}
use Rattle.krb_replay.specs.Clock.{in_microseconds, is_later, is_current, clock_refusal, judged}
use Rattle.krb_replay.specs.Verdicts.{is_admitted}
use Rattle.krb_replay.specs.Gate.{IsOpen, IsJudged, is_judged}
use Rattle.krb_replay.specs.History.{History, recorded, verdict_of, history_after, window}
use Rattle.krb_replay.specs.Order.{Ascends, place, in_order, is_front_stale}
use Rattle.krb_replay.specs.Book.{Book, Follows, StandsFor, NeedsRoom}
use Rattle.krb_replay.proofs.Order.{record_total, record_ties, any-in_order, filter-in_order, filter-from_front, length-place, length-in_order}

-- ---- the clock

not_later : (a b : ℤ) (o rest : Ordering) → MatchOrdering o (a <ℤ b) (a ≡ b) (b <ℤ a) → is_lt (ordering_then o rest) ≡ false → b ≤ℤ a
not_later a b Less rest h e = absurd (false≢true (sym e))
not_later a b Equal rest h e = omega (arith, ints)
not_later a b Greater rest h e = omega (arith, ints)

later_stays : (skew moment : ℕ) (a b : ℤ) → b ≤ℤ a → not (is_later (pos moment) (in_microseconds b) skew) ≡ true → not (is_later (pos moment) (in_microseconds a) skew) ≡ true
later_stays skew moment a b h e = grind (arith, ints)

-- what is not below a current record is current
pub current_up : (skew moment : ℕ) (x y : Record) → is_lt (record_cmp x y) ≡ false → is_current skew moment y ≡ true → is_current skew moment x ≡ true
current_up skew moment x y h e = later_stays skew moment x.ctime y.ctime (not_later x.ctime y.ctime (int_cmp x.ctime y.ctime) _ (int_ranked x.ctime y.ctime _ refl) h) e

-- what is current later is current now
pub current_before : (skew m n : ℕ) (r : Record) → m ≤ n → is_current skew n r ≡ true → is_current skew m r ≡ true
current_before skew m n r h e = grind (arith, ints)

and_first : (p q : Bool) → (p && q) ≡ true → p ≡ true
and_first true q e = refl
and_first false q e = e

pub current_same : (skew moment : ℕ) (x r : Record) → record_eq x r ≡ true → is_current skew moment x ≡ is_current skew moment r
current_same skew moment x r e = ap (λ (t : ℤ). not (is_later (pos moment) (in_microseconds t) skew)) ((signed_Decides x.ctime r.ctime).0 (and_first _ _ e))

open_by : (a b c d : Bool) → (if a || b then Some Skew else if c then Some NotYet else if d then Some Expired else None) ≡ None → not b ≡ true
open_by true b c d e = cc
open_by false true c d e = cc
open_by false false c d e = refl

-- what the clock leaves open is current
pub open_current : (skew moment : ℕ) (ask : Ask) → clock_refusal skew moment ask ≡ None → is_current skew moment ask.entry ≡ true
open_current skew moment ask e = open_by _ _ _ _ e

admitted_by : (a b c d s : Bool) → let o : Option Verdict = if a || b then Some Skew else if c then Some NotYet else if d then Some Expired else None in is_admitted (unwrap_or o (if s then Replayed else Admitted)) ≡ true → (o ≡ None) × (s ≡ false)
admitted_by true b c d s e = absurd (false≢true e)
admitted_by false true c d s e = absurd (false≢true e)
admitted_by false false true d s e = absurd (false≢true e)
admitted_by false false false true s e = absurd (false≢true e)
admitted_by false false false false true e = absurd (false≢true e)
admitted_by false false false false false e = (refl, refl)

-- an ask is admitted only where the clock leaves it open and it was not seen
pub admitted_open : (skew moment : ℕ) (seen : Bool) (ask : Ask) → is_admitted (judged skew moment seen ask) ≡ true → (clock_refusal skew moment ask ≡ None) × (seen ≡ false)
admitted_open skew moment seen ask e = admitted_by (is_later (in_microseconds ask.entry.ctime) (pos moment) skew) (is_later (pos moment) (in_microseconds ask.entry.ctime) skew) (is_later (in_microseconds ask.start) (pos moment) skew) (is_later (pos moment) (in_microseconds ask.end) skew) seen e

-- ---- records

eq_back : (x r : Record) → record_eq x r ≡ record_eq r x
eq_back x r = record_ties x r ∙ (eq_by_cmp_equiv record_total).symm x r ∙ sym (record_ties r x)

pub or_false : (p q : Bool) → (p || q) ≡ false → (p ≡ false) × (q ≡ false)
or_false true q e = absurd (false≢true (sym e))
or_false false q e = (refl, e)

-- records stay distinct if a record that is not among them is put after them
pub IsDistinct-push : (records : List Record) (r : Record) → IsDistinct records → has_record records r ≡ false → IsDistinct (records ++ r ∷ [])
IsDistinct-push [] r h e = (refl, tt)
IsDistinct-push (x ∷ xs) r h e =
    let parts = or_false (record_eq x r) (has_record xs r) e in
    (list_any-append (λ y. record_eq y x) xs (r ∷ []) ∙ rw (h.0, eq_back r x, parts.0), IsDistinct-push xs r h.1 parts.1)

filter_narrower : (p q : Record → Bool) → ((x : Record) → q x ≡ true → p x ≡ true) → (xs : List Record) → filter q (filter p xs) ≡ filter q xs
filter_narrower p q f [] = refl
filter_narrower p q f (x ∷ xs) = by (p x) (q x) refl refl (filter_narrower p q f xs)
  where
    by : (a b : Bool) → p x ≡ a → q x ≡ b → filter q (filter p xs) ≡ filter q xs → filter q (cond a (x ∷ filter p xs) (filter p xs)) ≡ cond b (x ∷ filter q xs) (filter q xs)
    by true b d e rest = rw (e, rest)
    by false true d e rest = absurd (false≢true (sym d ∙ f x e))
    by false false d e rest = rest

-- among the kept are the same current records as in the whole history
seen_same : (skew m n : ℕ) (admitted : List Record) (r : Record) → m ≤ n → is_current skew n r ≡ true → has_record (in_order (filter (is_current skew m) admitted)) r ≡ has_record admitted r
seen_same skew m n admitted r h e =
    any-in_order (λ x. record_eq x r) (filter (is_current skew m) admitted)
    ∙ any-filter_same (λ x. record_eq x r) (is_current skew m) true (λ x same. current_same skew m x r same ∙ current_before skew m n r h e) admitted

-- the kept at a later moment
kept_later : (skew m n : ℕ) (admitted : List Record) → m ≤ n → filter (is_current skew n) (in_order (filter (is_current skew m) admitted)) ≡ in_order (filter (is_current skew n) admitted)
kept_later skew m n admitted h =
    filter-in_order (is_current skew n) (current_up skew n) (filter (is_current skew m) admitted)
    ∙ ap in_order (filter_narrower (is_current skew m) (is_current skew n) (λ x. current_before skew m n x h) admitted)

filter_one : (p : Record → Bool) (r : Record) → p r ≡ true → filter p (r ∷ []) ≡ r ∷ []
filter_one p r e = rw e

same_verdict : (o : Option Verdict) (a b : Bool) → (o ≡ None → a ≡ b) → unwrap_or o (if a then Replayed else Admitted) ≡ unwrap_or o (if b then Replayed else Admitted)
same_verdict None a b f = ap (λ c. if c then Replayed else Admitted) (f refl)
same_verdict (Some v) a b f = refl

-- the records that are kept after a verdict at this moment
abbrev pub kept_after : ℕ → ℕ → List Record → Record → Verdict → List Record
kept_after skew moment kept r verdict = if is_admitted verdict then place (filter (is_current skew moment) kept) r else filter (is_current skew moment) kept

-- a book that answers by what it keeps, prunes, and keeps what it admits, answers as the one that never forgets
pub follows : (old new : Book) (ask : Ask) (verdict : Verdict) → new.skew ≡ old.skew → new.moment ≡ max old.moment ask.moment
    → verdict ≡ judged old.skew new.moment (has_record old.kept ask.entry) ask
    → new.kept ≡ kept_after old.skew new.moment old.kept ask.entry verdict
    → old.spare + length old.kept ≤ new.spare + length new.kept
    → Follows StandsFor old ask verdict new
follows old new ask verdict skew moment answer kept room = record {
  skew = skew;
  answer = right;
  history = λ h s. record {
    moment = moment ∙ ap (λ (m : ℕ). max m ask.moment) s.moment;
    distinct = subst (λ (v : Verdict). IsDistinct (recorded h.admitted ask.entry v)) (right h s) (distinct h s (is_admitted verdict) refl);
    kept = subst (λ (k : ℕ). new.kept ≡ in_order (window k (history_after old.skew h ask))) (sym skew)
        (subst (λ (m : ℕ). new.kept ≡ in_order (filter (is_current old.skew m) (recorded h.admitted ask.entry (verdict_of old.skew h ask)))) (moment ∙ ap (λ (m : ℕ). max m ask.moment) s.moment)
        (subst (λ (v : Verdict). new.kept ≡ in_order (filter (is_current old.skew new.moment) (recorded h.admitted ask.entry v))) (right h s)
        (kept ∙ stays h s (is_admitted verdict) refl)));
  };
  judged = is_judged old.skew new.moment _ ask verdict (omega (arith, moment)) answer;
  room = room;
}
  where
    later : old.moment ≤ new.moment
    later = omega (arith, moment)

    same : (h : History) → StandsFor old h → is_current old.skew new.moment ask.entry ≡ true → has_record old.kept ask.entry ≡ has_record h.admitted ask.entry
    same h s e = ap (λ (l : List Record). has_record l ask.entry) (s.kept ∙ ap (λ (m : ℕ). in_order (filter (is_current old.skew m) h.admitted)) (sym s.moment)) ∙ seen_same old.skew old.moment new.moment h.admitted ask.entry later e

    right : (h : History) → StandsFor old h → verdict ≡ verdict_of old.skew h ask
    right h s =
        answer
        ∙ same_verdict (clock_refusal old.skew new.moment ask) _ _ (λ e. same h s (open_current old.skew new.moment ask e))
        ∙ ap (λ (m : ℕ). judged old.skew m (has_record h.admitted ask.entry) ask) (moment ∙ ap (λ (m : ℕ). max m ask.moment) s.moment)

    left_open : is_admitted verdict ≡ true → (clock_refusal old.skew new.moment ask ≡ None) × (has_record old.kept ask.entry ≡ false)
    left_open e = admitted_open old.skew new.moment _ ask (ap is_admitted (sym answer) ∙ e)

    distinct : (h : History) → StandsFor old h → (b : Bool) → is_admitted verdict ≡ b → IsDistinct (if b then h.admitted ++ ask.entry ∷ [] else h.admitted)
    distinct h s false e = s.distinct
    distinct h s true e = IsDistinct-push h.admitted ask.entry s.distinct (sym (same h s (open_current _ _ ask (left_open e).0)) ∙ (left_open e).1)

    pruned : (h : History) → StandsFor old h → filter (is_current old.skew new.moment) old.kept ≡ in_order (filter (is_current old.skew new.moment) h.admitted)
    pruned h s = ap (filter (is_current old.skew new.moment)) (s.kept ∙ ap (λ (m : ℕ). in_order (filter (is_current old.skew m) h.admitted)) (sym s.moment)) ∙ kept_later old.skew old.moment new.moment h.admitted later

    stays : (h : History) → StandsFor old h → (b : Bool) → is_admitted verdict ≡ b
        → (if b then place (filter (is_current old.skew new.moment) old.kept) ask.entry else filter (is_current old.skew new.moment) old.kept) ≡ in_order (filter (is_current old.skew new.moment) (if b then h.admitted ++ ask.entry ∷ [] else h.admitted))
    stays h s false e = pruned h s
    stays h s true e =
        let current = is_current old.skew new.moment in
        ap (λ (l : List Record). place l ask.entry) (pruned h s)
        ∙ sym (fold-append place [] (filter current h.admitted) (ask.entry ∷ []))
        ∙ ap in_order (ap (λ (l : List Record). filter current h.admitted ++ l) (sym (filter_one current ask.entry (open_current _ _ ask (left_open e).0))) ∙ sym (filter-append current h.admitted (ask.entry ∷ [])))

-- ---- the stale front

pub stale_fails : (b : Bool) → not b ≡ true → b ≡ false
stale_fails true e = absurd (false≢true e)
stale_fails false e = refl

pub fresh_passes : (b : Bool) → not b ≡ false → b ≡ true
fresh_passes true e = refl
fresh_passes false e = absurd (false≢true (sym e))

pub filter-fresh : (skew moment : ℕ) (xs : List Record) → Ascends xs → is_front_stale skew moment xs ≡ false → filter (is_current skew moment) xs ≡ xs
filter-fresh skew moment [] a e = refl
filter-fresh skew moment (x ∷ xs) a e = filter-from_front (is_current skew moment) (current_up skew moment) x xs (fresh_passes (is_current skew moment x) e) a

pub length-stale : (skew moment : ℕ) (xs : List Record) → is_front_stale skew moment xs ≡ true → length (filter (is_current skew moment) xs) < length xs
length-stale skew moment [] e = absurd (false≢true e)
length-stale skew moment (x ∷ xs) e = rw (stale_fails (is_current skew moment x) e) (omega (arith, length-filter_both (is_current skew moment) (λ r. not (is_current skew moment r)) (λ r. refl) xs))

-- ---- the exits of `admit`

refused_by : (a b c d : Bool) (v : Verdict) → (if a || b then Some Skew else if c then Some NotYet else if d then Some Expired else None) ≡ Some v → is_admitted v ≡ false
refused_by true b c d v e = ap (λ (o : Option Verdict). is_admitted (unwrap_or o Skew)) (sym e)
refused_by false true c d v e = ap (λ (o : Option Verdict). is_admitted (unwrap_or o Skew)) (sym e)
refused_by false false true d v e = ap (λ (o : Option Verdict). is_admitted (unwrap_or o Skew)) (sym e)
refused_by false false false true v e = ap (λ (o : Option Verdict). is_admitted (unwrap_or o Skew)) (sym e)
refused_by false false false false v e = cc

-- what the clock refuses is not admitted
refused_not : (skew moment : ℕ) (ask : Ask) (v : Verdict) → clock_refusal skew moment ask ≡ Some v → is_admitted v ≡ false
refused_not skew moment ask v e = refused_by (is_later (in_microseconds ask.entry.ctime) (pos moment) skew) (is_later (pos moment) (in_microseconds ask.entry.ctime) skew) (is_later (in_microseconds ask.start) (pos moment) skew) (is_later (pos moment) (in_microseconds ask.end) skew) v e

none_refused : (refusal : Option Verdict) (verdict : Verdict) → ((v : Verdict) → refusal ≡ Some v → is_admitted v ≡ false) → MatchOption refusal (IsOpen verdict) (λ v. verdict ≡ v) → is_admitted verdict ≡ true → refusal ≡ None
none_refused None verdict f m e = refl
none_refused (Some v) verdict f m e = absurd (false≢true (sym (f v refl) ∙ ap is_admitted (sym m) ∙ e))

-- whatever the gate: where it admits, the clock refuses nothing
pub admitted_in_time : (skew moment : ℕ) (ask : Ask) (verdict : Verdict) → IsJudged skew moment ask verdict → is_admitted verdict ≡ true → clock_refusal skew moment ask ≡ None
admitted_in_time skew moment ask verdict judged e = none_refused (clock_refusal skew moment ask) verdict (λ v is. refused_not skew moment ask v is) judged.first e

-- the book at the moment of the ask, with at least as much room
pub record IsLater (old new : Book) (ask : Ask) : Type 0 where
  pub skew : new.skew ≡ old.skew
  pub moment : new.moment ≡ max old.moment ask.moment
  pub room : old.spare + length old.kept ≤ new.spare + length new.kept

module _ (old new : Book) (ask : Ask) (h : IsLater old new ask) where
  pub follows_refusal : (v : Verdict) → clock_refusal old.skew new.moment ask ≡ Some v → new.kept ≡ filter (is_current old.skew new.moment) old.kept → Follows StandsFor old ask v new
  follows_refusal v clock kept =
      follows old new ask v h.skew h.moment (rw clock)
      (kept ∙ ap (λ (b : Bool). if b then place (filter (is_current old.skew new.moment) old.kept) ask.entry else filter (is_current old.skew new.moment) old.kept) (sym (refused_not old.skew new.moment ask v clock)))
      h.room

  pub follows_replay : clock_refusal old.skew new.moment ask ≡ None → has_record old.kept ask.entry ≡ true → new.kept ≡ filter (is_current old.skew new.moment) old.kept → Follows StandsFor old ask Replayed new
  follows_replay clock seen kept = follows old new ask Replayed h.skew h.moment (rw (clock, seen)) kept h.room

  pub follows_admission : clock_refusal old.skew new.moment ask ≡ None → has_record old.kept ask.entry ≡ false → new.kept ≡ place (filter (is_current old.skew new.moment) old.kept) ask.entry → Follows StandsFor old ask Admitted new
  follows_admission clock absent kept = follows old new ask Admitted h.skew h.moment (rw (clock, absent)) kept h.room

-- a window that has no room for the record
pub needs_room : (old : Book) (ask : Ask) → let m = max old.moment ask.moment in clock_refusal old.skew m ask ≡ None → has_record old.kept ask.entry ≡ false → old.spare + length old.kept ≤ length (filter (is_current old.skew m) old.kept) → NeedsRoom old ask
needs_room old ask clock absent full =
    let m = max old.moment ask.moment in
    let new : Book = record { skew = old.skew; moment = m; kept = place (filter (is_current old.skew m) old.kept) ask.entry; spare = old.spare + length old.kept } in
    let step : Follows StandsFor old ask Admitted new = follows old new ask Admitted refl refl (rw (clock, absent)) refl (omega arith) in
    record {
      admitted = λ h s. sym (step.answer h s);
      over = λ h s. omega (arith, full, ap length (step.history h s).kept, length-place (filter (is_current old.skew m) old.kept) ask.entry, length-in_order (window old.skew (history_after old.skew h ask)));
    }

-- a record that is not among them is not among the current ones
pub absent_current : (skew moment : ℕ) (xs : List Record) (r : Record) → has_record xs r ≡ false → has_record (filter (is_current skew moment) xs) r ≡ false
absent_current skew moment [] r h = refl
absent_current skew moment (x ∷ xs) r h =
    let p = or_false (record_eq x r) (has_record xs r) h in
    elim (is_current skew moment x) as (λ b. has_record (if b then x ∷ filter (is_current skew moment) xs else filter (is_current skew moment) xs) r ≡ false) [ true ↦ rw (p.0, absent_current skew moment xs r p.1) | false ↦ absent_current skew moment xs r p.1 ]

-- the oldest record, that is no longer current, goes
pub filter-stale : (skew moment : ℕ) (xs : List Record) → is_front_stale skew moment xs ≡ true → filter (is_current skew moment) (drop 1 xs) ≡ filter (is_current skew moment) xs
filter-stale skew moment [] e = refl
filter-stale skew moment (x ∷ xs) e = rw (stale_fails (is_current skew moment x) e)

pub some_stale : (skew moment : ℕ) (xs : List Record) → is_front_stale skew moment xs ≡ true → length (drop 1 xs) + 1 ≡ length xs
some_stale skew moment [] e = absurd (false≢true e)
some_stale skew moment (x ∷ xs) e = omega arith

pub no_more_current : (skew moment : ℕ) (xs : List Record) → length (filter (is_current skew moment) xs) ≤ length xs
no_more_current skew moment xs = omega (arith, length-filter_both (is_current skew moment) (λ r. not (is_current skew moment r)) (λ r. refl) xs)
