-- The first element that passes a test, as a loop finds it.
use Rattle.std.proofs.Common.{◌≡◌, ℕ, zero, suc, ◌+◌, ◌<◌, Bool, true, false, cond, List, [], ◌∷◌, ◌++◌, length, take, get_or, Option, Some, None, refl, sym, ap, ◌∙◌, arith}
use Rattle.std.specs.List.{find}
use Rattle.std.proofs.lemmas.List.{take_more}
use Rattle.std.proofs.lemmas.List.Folds.{find-append}

miss : {X : Type 0} (b : Bool) (y : X) (o : Option X) → cond b (Some y) o ≡ None → (b ≡ false) × (o ≡ None)
miss true y o e = absurd cc
miss false y o e = (refl, e)

module _ {X : Type 0} (p : X → Bool) where
  pub not_yet : (xs : List X) (i : ℕ) (x : X) → i < length xs → x ≡ get_or xs i x → find p (take i xs) ≡ None → p x ≡ false → find p (take (i + 1) xs) ≡ None
  not_yet xs i x lt is none fails =
      let more : take (i + 1) xs ≡ take i xs ++ x ∷ [] = take_more xs i x lt ∙ ap (λ (y : X). take i xs ++ y ∷ []) (sym is) in
      ap (find p) more ∙ find-append p (take i xs) (x ∷ []) ∙ rw (none, fails) refl

  pub here : (xs : List X) (i : ℕ) (x : X) → i < length xs → x ≡ get_or xs i x → find p (take i xs) ≡ None → p x ≡ true → find p xs ≡ Some x
  here [] i x lt is none passes = absurd (omega (arith, lt))
  here (y ∷ xs) zero x lt is none passes = rw (← is, passes) refl
  here (y ∷ xs) (suc i) x lt is none passes =
      let m = miss (p y) y (find p (take i xs)) none in
      rw m.0 (here xs i x (omega (arith, lt)) is m.1 passes)
