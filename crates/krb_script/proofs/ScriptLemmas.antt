-- The value at a key of a map.
use Rattle.std.proofs.Common.{◌≡◌, ℕ, Bool, true, false, cond, List, [], ◌∷◌, Option, Some, refl, sym, ap, ◌∙◌}
use Rattle.std.specs.Map.{lookup, set_value}

some_same : {A : Type 0} (x y : A) → Some y ≡ Some x → y ≡ x
some_same x y e = cc

set_first : {A : Type 0} (entry : ℕ × A) (entries put : List (ℕ × A)) (found : Option A) (x : A) (b : Bool) → (found ≡ Some x → put ≡ entries) → cond b (Some entry.1) found ≡ Some x
    → cond b ((entry.0, x) ∷ entries) (entry ∷ put) ≡ entry ∷ entries
set_first entry entries put found x true rest e = ap (λ y. (entry.0, y) ∷ entries) (sym (some_same x entry.1 e))
set_first entry entries put found x false rest e = ap (λ l. entry ∷ l) (rest e)

-- the map is unchanged after the value at a key is set again
pub set_same : {A : Type 0} (test : ℕ → Bool) (entries : List (ℕ × A)) (x : A) → lookup test entries ≡ Some x → set_value test entries x ≡ entries
set_same test [] x e = refl
set_same test (entry ∷ entries) x e =
    set_first entry entries (set_value test entries x) (lookup test entries) x (test entry.0) (λ e. set_same test entries x e) e
