-- Places and their numbers.
use Rattle.std.proofs.Common.{◌≡◌, ℕ, ◌+◌, ◌-◌, ◌*◌, ◌%◌, ◌^◌, ◌<◌, ℤ, pos, negsuc, ◌+ℤ◌, ◌<ℤ◌, ◌≤ℤ◌, Bool, true, false, List, [], ◌∷◌, ◌++◌, refl, sym, ap, inl, inr, ◌∙◌, arith, fold}
use Rattle.std.specs.Prelude.{unsigned_abs, Option, Some, None, ◌||◌}
use Rattle.std.specs.Int.{int_max}
use Rattle.std.specs.Ordering.{int_eq}
use Rattle.std.proofs.lemmas.Bool.{or_from, or_left, or_right, false_from_ne_true}
use Rattle.std.proofs.lemmas.Bool.Decides.{Decides-int_eq}
use Rattle.std.proofs.lemmas.Int.{ints, int_rem_euclid_is, fold-int_max_bounds, fold-int_max_reached}
use Rattle.std.proofs.lemmas.List.Elements.{All-weaker}
use Rattle.std.proofs.lemmas.List.Sums.{fold-append}
use Rattle.std.proofs.lemmas.List.Folds.{list_any-append, list_any_none, list_any-from_Any}
use Rattle.krb_context.specs.Places.{number_at, greatest, was_opened}

-- a multiple of the divisor that makes a place a natural number
pub record IsRaised (place : ℤ) : Type 0 where
  pub times : ℕ
  pub sum : ℕ
  pub is : place +ℤ pos (times * 2 ^ 32) ≡ pos sum
  pub number : number_at place ≡ sum % 2 ^ 32

number_of_raised : (place : ℤ) (times sum : ℕ) → place +ℤ pos (times * 2 ^ 32) ≡ pos sum → number_at place ≡ sum % 2 ^ 32
number_of_raised place times sum e = ap unsigned_abs (int_rem_euclid_is place (pos (2 ^ 32)) (2 ^ 32) times sum (omega arith) refl e)

raised : (place : ℤ) → IsRaised place
raised (pos n) = record { times = 0; sum = n; is = omega (arith, ints); number = number_of_raised (pos n) 0 n (omega (arith, ints)) }
raised (negsuc n) =
    let e : negsuc n +ℤ pos ((n + 1) * 2 ^ 32) ≡ pos ((n + 1) * 2 ^ 32 - (n + 1)) = omega (arith, ints) in
    record { times = n + 1; sum = (n + 1) * 2 ^ 32 - (n + 1); is = e; number = number_of_raised (negsuc n) (n + 1) ((n + 1) * 2 ^ 32 - (n + 1)) e }

pub number_at-lt : (place : ℤ) → number_at place < 2 ^ 32
number_at-lt place = let r = raised place in omega (arith, r.number)

-- a place that is higher has a number that is higher by as much, going round
pub number_at-plus : (place : ℤ) (distance : ℕ) → number_at (place +ℤ pos distance) ≡ (number_at place + distance) % 2 ^ 32
number_at-plus place distance =
    let r = raised place in
    let up : place +ℤ pos distance +ℤ pos (r.times * 2 ^ 32) ≡ pos (r.sum + distance) = omega (arith, ints, r.is) in
    let e = number_of_raised (place +ℤ pos distance) r.times (r.sum + distance) up in
    omega (arith, e, r.number)

pub number_at-pos : (n : ℕ) → n < 2 ^ 32 → number_at (pos n) ≡ n
number_at-pos n fits = let e = number_of_raised (pos n) 0 n (omega (arith, ints)) in omega (arith, e)

-- the greater of a greatest place and a further one
abbrev pub top_of : Option ℤ → ℤ → ℤ
top_of None place = place
top_of (Some newest) place = int_max newest place

pub greatest-push : (places : List ℤ) (place : ℤ) → greatest (places ++ place ∷ []) ≡ Some (top_of (greatest places) place)
greatest-push [] place = refl
greatest-push (first ∷ places) place = ap Some (fold-append int_max first places (place ∷ []))

pub or_false : (b : Bool) → (b || false) ≡ b
or_false true = refl
or_false false = refl

pub was_opened-push : (places : List ℤ) (place other : ℤ) → was_opened (places ++ place ∷ []) other ≡ (was_opened places other || int_eq place other)
was_opened-push places place other =
    list_any-append (λ opened. int_eq opened other) places (place ∷ []) ∙ ap (λ (b : Bool). was_opened places other || b) (or_false (int_eq place other))

-- two places are equal, or not, by the test
pub int_eq-same : (place other : ℤ) → place ≡ other → int_eq place other ≡ true
int_eq-same place other e = (Decides-int_eq place other).1 e

pub int_eq-apart : (place other : ℤ) → (place ≡ other → ⊥) → int_eq place other ≡ false
int_eq-apart place other apart = false_from_ne_true (int_eq place other) (λ e. apart ((Decides-int_eq place other).0 e))

-- no place above the greatest was opened
pub none_above : (places : List ℤ) (newest place : ℤ) → greatest places ≡ Some newest → newest <ℤ place → was_opened places place ≡ false
none_above [] newest place e above = cc
none_above (first ∷ places) newest place e above =
    let top : newest ≡ fold int_max first places = cc in
    let bounds = fold-int_max_bounds first places newest top in
    let apart : (x : ℤ) → x ≤ℤ newest → int_eq x place ≡ false = λ x low. int_eq-apart x place (λ same. omega (arith, ints, same)) in
    or_from (int_eq first place) (was_opened places place) (apart first bounds.0)
    (list_any_none (λ opened. int_eq opened place) places (All-weaker (λ x. x ≤ℤ newest) (λ x. int_eq x place ≡ false) apart places bounds.1))

-- the greatest place was opened
pub newest_opened : (places : List ℤ) (newest : ℤ) → greatest places ≡ Some newest → was_opened places newest ≡ true
newest_opened [] newest e = cc
newest_opened (first ∷ places) newest e =
    let top : newest ≡ fold int_max first places = cc in
    elim (fold-int_max_reached first places newest top) [
      | inl same ↦ or_left (int_eq first newest) (was_opened places newest) (int_eq-same first newest (sym same))
      | inr among ↦ or_right (int_eq first newest) (was_opened places newest) (list_any-from_Any (λ opened. int_eq opened newest) places (among.0, newest, among.1, among.2, int_eq-same newest newest refl))
    ]
