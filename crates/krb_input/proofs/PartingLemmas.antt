-- Events and their numbers, one more at a time.
use Rattle.std.proofs.Common.{◌≡◌, ℕ, ◌+◌, Bool, true, false, cond, List, [], ◌∷◌, ◌++◌, length, refl, ap, ◌∙◌, arith}
use Rattle.std.specs.Prelude.{if◌then◌else◌}
use Rattle.std.specs.List.{filter}
use Rattle.std.proofs.lemmas.List.{append-nil}
use Rattle.std.proofs.lemmas.List.Elements.{filter-append}
use Rattle.krb_script.specs.declared.item.Event.{Event}
use Rattle.krb_input.specs.Parted.{is_of, events_of, numbers_from}

-- one more element that passes the test
pub filter-in : {X : Type 0} (p : X → Bool) (xs : List X) (x : X) → p x ≡ true → filter p (xs ++ x ∷ []) ≡ filter p xs ++ x ∷ []
filter-in p xs x is = filter-append p xs (x ∷ []) ∙ ap (λ b. filter p xs ++ cond b (x ∷ []) []) is

-- one more element that does not pass the test
pub filter-out : {X : Type 0} (p : X → Bool) (xs : List X) (x : X) → p x ≡ false → filter p (xs ++ x ∷ []) ≡ filter p xs
filter-out p xs x is = filter-append p xs (x ∷ []) ∙ ap (λ b. filter p xs ++ cond b (x ∷ []) []) is ∙ append-nil (filter p xs)

onto : (b : Bool) (n : ℕ) (xs ys : List ℕ) → (if b then n ∷ (xs ++ ys) else (xs ++ ys)) ≡ (if b then n ∷ xs else xs) ++ ys
onto true n xs ys = refl
onto false n xs ys = refl

pub numbers-in : (n worker : ℕ) (events : List Event) (event : Event) → is_of worker event.connection ≡ true
    → numbers_from n worker (events ++ event ∷ []) ≡ numbers_from n worker events ++ (n + length events) ∷ []
numbers-in n worker [] event is = ap (λ b. if b then n ∷ [] else []) is ∙ ap (λ k. k ∷ []) (omega arith)
numbers-in n worker (first ∷ events) event is =
    ap (λ l. if is_of worker first.connection then n ∷ l else l) (numbers-in (n + 1) worker events event is)
    ∙ onto (is_of worker first.connection) n (numbers_from (n + 1) worker events) ((n + 1 + length events) ∷ [])
    ∙ ap (λ k. (if is_of worker first.connection then n ∷ numbers_from (n + 1) worker events else numbers_from (n + 1) worker events) ++ k ∷ []) (omega arith)

pub numbers-out : (n worker : ℕ) (events : List Event) (event : Event) → is_of worker event.connection ≡ false → numbers_from n worker (events ++ event ∷ []) ≡ numbers_from n worker events
numbers-out n worker [] event is = ap (λ b. if b then n ∷ [] else []) is
numbers-out n worker (first ∷ events) event is = ap (λ l. if is_of worker first.connection then n ∷ l else l) (numbers-out (n + 1) worker events event is)

same_length : (b : Bool) (n : ℕ) (event : Event) (numbers : List ℕ) (events : List Event) → length numbers ≡ length events → length (if b then n ∷ numbers else numbers) ≡ length (cond b (event ∷ events) events)
same_length true n event numbers events e = omega (arith, e)
same_length false n event numbers events e = e

-- each of a worker's events has a number
pub numbers-length : (n worker : ℕ) (events : List Event) → length (numbers_from n worker events) ≡ length (events_of worker events)
numbers-length n worker [] = refl
numbers-length n worker (event ∷ events) =
    same_length (is_of worker event.connection) n event (numbers_from (n + 1) worker events) (events_of worker events) (numbers-length (n + 1) worker events)
