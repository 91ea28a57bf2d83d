-- Facts about all octets that are computed at each octet.
use Rattle.std.proofs.Common.{◌≡◌, ℕ, zero, suc, ◌-◌, ◌<◌, Bool, true, ◌&&◌, T, eqb, List, [], ◌∷◌, map, get_or, refl, ap, ap₂, ◌∙◌, subst, inl, inr, arith, eq-zero-or-pos, w8, Fits, eqb→eq}
use lib.Ieee.Fits.{and_l, and_r}
use lib.Lanes.{Each1}
use Rattle.std.proofs.lemmas.Simd.{map-map}
use Rattle.krb_aes.specs.Octets.{IsBlock}
use Rattle.krb_aes.specs.Tower.{tower}

abbrev pub all_below : (ℕ → Bool) → ℕ → Bool
all_below p zero = true
all_below p (suc n) = p n && all_below p n

pub every_below : (p : ℕ → Bool) (n : ℕ) → T (all_below p n) → (i : ℕ) → i < n → T (p i)
every_below p zero h i l = absurd (omega arith)
every_below p (suc n) h i l =
    elim (eq-zero-or-pos (n - i)) [
      | inl z ↦ let e : n ≡ i = omega arith in subst (λ x. T (p x)) e (and_l _ _ h)
      | inr g ↦ every_below p n (and_r (p n) _ h) i (omega arith)
    ]

abbrev pub agree : (ℕ → ℕ) → (ℕ → ℕ) → Type 0
agree f g = T (all_below (λ a. eqb (f a) (g a)) 256)

pub same_octet : (f g : ℕ → ℕ) → agree f g → (i : ℕ) → i < 256 → f i ≡ g i
same_octet f g t i h = eqb→eq (f i) (g i) (every_below (λ a. eqb (f a) (g a)) 256 t i h)

-- two rules that agree at each octet agree on a list of octets
pub mapped_octets : (f g : ℕ → ℕ) → agree f g → (v : List ℕ) → Each1 (Fits w8) v → map f v ≡ map g v
mapped_octets f g t [] e = refl
mapped_octets f g t (x ∷ xs) e = ap₂ (λ (n : ℕ) (l : List ℕ). n ∷ l) (same_octet f g t x e.0.fits) (mapped_octets f g t xs e.1)

pub same_map : (f g : ℕ → ℕ) → ((x : ℕ) → x < 256 → f x ≡ g x) → (s : List ℕ) → ((i : ℕ) → get_or s i 0 < 256) → map f s ≡ map g s
same_map f g e [] h = refl
same_map f g e (x ∷ xs) h = ap₂ (λ (n : ℕ) (l : List ℕ). n ∷ l) (e x (h zero)) (same_map f g e xs (λ i. h (suc i)))

-- a rule on the lanes of the tower, by what it is on the octets of the field
pub in_tower : (f g : ℕ → ℕ) → ((x : ℕ) → x < 256 → f (tower x) ≡ g x) → (s v r : List ℕ) → IsBlock s → v ≡ map tower s → r ≡ map f v → r ≡ map g s
in_tower f g e s v r b ev er =
    er ∙ ap (map f) ev ∙ map-map f tower s ∙ same_map (λ x. f (tower x)) g e s b.octets.below
