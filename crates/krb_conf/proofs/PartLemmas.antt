-- Whether a text contains a part.
use Rattle.std.proofs.Common.{◌≡◌, ℕ, Bool, true, false, eqb, List, [], ◌∷◌, ◌++◌, refl, sym, ap, ◌∙◌, ◌⊎◌, inl, inr, Decides}
use Rattle.std.specs.Prelude.{◌==◌, ◌&&◌, ◌||◌}
use Rattle.std.specs.Str.Iter.{HasSubslice}
use Rattle.std.proofs.lemmas.Bool.Decides.{Decides-eqb, Decides-and, Decides-or, Decides-like, same_from_decides}
use Rattle.krb_conf.specs.Kdc.{begins_with_part, has_part}

abbrev BeginsWith : List ℕ → List ℕ → Type 0
BeginsWith part text = (rest : List ℕ) × (text ≡ part ++ rest)

no-cons : (b : ℕ) (xs : List ℕ) → [] ≡ b ∷ xs → ⊥
no-cons b xs h = cc

cons-parts : (c p : ℕ) (text more : List ℕ) → c ∷ text ≡ p ∷ more → (p ≡ c) × (text ≡ more)
cons-parts c p text more h = (cc, cc)

Decides-begins : (part text : List ℕ) → Decides (begins_with_part part text) (BeginsWith part text)
Decides-begins [] text = (λ _. (text, refl), λ _. refl)
Decides-begins (p ∷ part) [] = (λ h. absurd (cc), λ h. absurd (no-cons p (part ++ h.0) h.1))
Decides-begins (p ∷ part) (c ∷ text) =
    Decides-like _
    (λ h. (h.1.0, ap (λ x. x ∷ text) (sym h.0) ∙ ap (λ xs. p ∷ xs) h.1.1))
    (λ h. ((cons-parts c p text (part ++ h.0) h.1).0, (h.0, (cons-parts c p text (part ++ h.0) h.1).1)))
    (Decides-and _ _ (Decides-eqb p c) (Decides-begins part text))

front-empty : (a b part : List ℕ) → [] ≡ a ++ (part ++ b) → BeginsWith part []
front-empty [] b part h = (b, h)
front-empty (x ∷ a) b part h = absurd (no-cons x (a ++ (part ++ b)) h)

step-in : (c : ℕ) (text part : List ℕ) → BeginsWith part (c ∷ text) ⊎ HasSubslice text part → HasSubslice (c ∷ text) part
step-in c text part (inl h) = ([], h.0, h.1)
step-in c text part (inr h) = (c ∷ h.0, h.1, ap (λ xs. c ∷ xs) h.2)

step-out : (c : ℕ) (text part a b : List ℕ) → c ∷ text ≡ a ++ (part ++ b) → BeginsWith part (c ∷ text) ⊎ HasSubslice text part
step-out c text part [] b h = inl (b, h)
step-out c text part (x ∷ a) b h = inr (a, b, (cons-parts c x text (a ++ (part ++ b)) h).1)

Decides-part : (part text : List ℕ) → Decides (has_part part text) (HasSubslice text part)
Decides-part part [] = Decides-like _ (λ h. ([], h.0, h.1)) (λ h. front-empty h.0 h.1 part h.2) (Decides-begins part [])
Decides-part part (c ∷ text) =
    Decides-like _ (step-in c text part) (λ h. step-out c text part h.0 h.1 h.2) (Decides-or _ _ (Decides-begins part (c ∷ text)) (Decides-part part text))

pub has_part-is : (r : Bool) (part text : List ℕ) → Decides r (HasSubslice text part) → r ≡ has_part part text
has_part-is r part text h = same_from_decides r _ h (Decides-part part text)
