-- Writing one piece after another.
use Rattle.std.proofs.Common.{◌≡◌, ℕ, List, ◌++◌, ap, ◌∙◌, append_assoc, Result, Ok, Err}
use Rattle.std.specs.Prelude.{OnOk}

-- two pieces, the second of which may fail
pub behind_ok : {E : Type 0} (r : Result (Unit {0}) E) (a b c x y : List ℕ) → b ≡ a ++ x → OnOk r (c ≡ b ++ y) → OnOk r (c ≡ a ++ (x ++ y))
behind_ok (Ok u) a b c x y p q = q ∙ ap (λ (o : List ℕ). o ++ y) p ∙ append_assoc a x y
behind_ok (Err e) a b c x y p q = tt
