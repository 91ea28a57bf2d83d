-- The truth values of a conjunction or disjunction, each by itself.
use Rattle.std.proofs.Common.{◌≡◌, ◌↔◌, Bool, true, false, not, ◌&&◌, ◌||◌, IsTrue, MatchBool, refl}

pub both : (a b : Bool) → (a && b) ≡ true → (a ≡ true) × (b ≡ true)
both true true h = (refl, refl)
both true false h = absurd cc
both false b h = absurd cc

pub neither : (a b : Bool) → (a || b) ≡ false → (a ≡ false) × (b ≡ false)
neither true b h = absurd cc
neither false b h = (refl, h)

pub no : (a : Bool) → not a ≡ true → a ≡ false
no true h = absurd cc
no false h = refl

-- two tests of one fact have one answer
pub same_answer : {P : Type 0} (a b : Bool) → IsTrue a ↔ P → MatchBool b P (P → ⊥) → a ≡ b
same_answer true true is told = refl
same_answer true false is told = absurd (told (is.0 refl))
same_answer false true is told = let h : false ≡ true = is.1 told in absurd cc
same_answer false false is told = refl
