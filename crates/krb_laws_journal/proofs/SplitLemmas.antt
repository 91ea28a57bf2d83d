-- Texts that are split at an octet.
use Rattle.std.proofs.Common.{◌≡◌, ℕ, ◌+◌, ◌==◌, ◌<◌, ◌%◌, ◌/◌, zero, suc, Bool, true, false, cond, List, [], ◌∷◌, ◌++◌, refl, ap, sym, ◌∙◌, subst, arith, ◌⊎◌, inl, inr}
use Rattle.std.specs.Prelude.{if◌then◌else◌}
use Rattle.std.specs.Fmt.{decimal, digits, digits_onto, digit_glyph}
use Rattle.std.proofs.lemmas.Bool.Decides.{nat_tests}

-- an octet does not occur in a text
abbrev pub lacks : ℕ → List ℕ → Bool
lacks octet [] = true
lacks octet (x ∷ xs) = if x == octet then false else lacks octet xs

lacks_tail : (b rest : Bool) → (if b then false else rest) ≡ true → (b ≡ false) × (rest ≡ true)
lacks_tail true rest e = absurd (cc)
lacks_tail false rest e = (refl, e)

same_is : (octet : ℕ) → (octet == octet) ≡ true
same_is octet = grind (arith, nat_tests)

other_is : (x octet : ℕ) → (x == octet) ≡ false → x ≡ octet → ⊥
other_is x octet e s = grind (arith, nat_tests)

pub lacks-append : (octet : ℕ) (a b : List ℕ) → lacks octet a ≡ true → lacks octet b ≡ true → lacks octet (a ++ b) ≡ true
lacks-append octet [] b p q = q
lacks-append octet (x ∷ a) b p q =
    let t = lacks_tail (x == octet) (lacks octet a) p in
    ap (λ (here : Bool). if here then false else lacks octet (a ++ b)) t.0 ∙ lacks-append octet a b t.1 q

-- an octet that occurs in a text is not lacking
stands : (octet : ℕ) (a b : List ℕ) → lacks octet (a ++ octet ∷ b) ≡ true → ⊥
stands octet [] b p = let t = lacks_tail (octet == octet) (lacks octet b) p in let s = same_is octet in cc
stands octet (x ∷ a) b p = stands octet a b (lacks_tail (x == octet) (lacks octet (a ++ octet ∷ b)) p).1

-- a text has only one split at the last occurrence of an octet
pub split-last : (octet : ℕ) (a b r s : List ℕ) → lacks octet r ≡ true → lacks octet s ≡ true → a ++ octet ∷ r ≡ b ++ octet ∷ s → (a ≡ b) × (r ≡ s)
split-last octet [] [] r s p q e = (refl, cc)
split-last octet [] (y ∷ b) r s p q e =
    let t : r ≡ b ++ octet ∷ s = cc in
    absurd (stands octet b s (ap (lacks octet) (sym t) ∙ p))
split-last octet (x ∷ a) [] r s p q e =
    let t : a ++ octet ∷ r ≡ s = cc in
    absurd (stands octet a r (ap (lacks octet) t ∙ q))
split-last octet (x ∷ a) (y ∷ b) r s p q e =
    let t : a ++ octet ∷ r ≡ b ++ octet ∷ s = cc in
    let h : x ≡ y = cc in
    let same = split-last octet a b r s p q t in
    (cc, same.1)

-- a text has only one split at the first occurrence of an octet
pub split-first : (octet : ℕ) (a b r s : List ℕ) → lacks octet a ≡ true → lacks octet b ≡ true → a ++ octet ∷ r ≡ b ++ octet ∷ s → (a ≡ b) × (r ≡ s)
split-first octet [] [] r s p q e = (refl, cc)
split-first octet [] (y ∷ b) r s p q e =
    let h : y ≡ octet = cc in
    absurd (other_is y octet (lacks_tail (y == octet) (lacks octet b) q).0 h)
split-first octet (x ∷ a) [] r s p q e =
    let h : x ≡ octet = cc in
    absurd (other_is x octet (lacks_tail (x == octet) (lacks octet a) p).0 h)
split-first octet (x ∷ a) (y ∷ b) r s p q e =
    let t : a ++ octet ∷ r ≡ b ++ octet ∷ s = cc in
    let h : x ≡ y = cc in
    let same = split-first octet a b r s (lacks_tail (x == octet) (lacks octet a) p).1 (lacks_tail (y == octet) (lacks octet b) q).1 t in
    (cc, same.1)

-- an octet that is no digit
abbrev pub IsNoDigit : ℕ → Type 0
IsNoDigit octet = (octet < 48) ⊎ (57 < octet)

glyph_other : (octet n : ℕ) → IsNoDigit octet → (digit_glyph false (n % 10) == octet) ≡ false
glyph_other octet n (inl low) = grind (arith, nat_tests)
glyph_other octet n (inr high) = grind (arith, nat_tests)

lacks_cons : (octet x : ℕ) (xs : List ℕ) → (x == octet) ≡ false → lacks octet xs ≡ true → lacks octet (x ∷ xs) ≡ true
lacks_cons octet x xs e p = ap (λ (b : Bool). if b then false else lacks octet xs) e ∙ p

lacks_either : (octet : ℕ) (b : Bool) (xs ys : List ℕ) → lacks octet xs ≡ true → lacks octet ys ≡ true → lacks octet (if b then xs else ys) ≡ true
lacks_either octet true xs ys p q = p
lacks_either octet false xs ys p q = q

digits_lack : (octet k n : ℕ) (acc : List ℕ) → IsNoDigit octet → lacks octet acc ≡ true → lacks octet (digits_onto k 10 false n acc) ≡ true
digits_lack octet zero n acc other p = p
digits_lack octet (suc k) n acc other p =
    let here = lacks_cons octet (digit_glyph false (n % 10)) acc (glyph_other octet n other) p in
    lacks_either octet (n / 10 == 0) (digit_glyph false (n % 10) ∷ acc) (digits_onto k 10 false (n / 10) (digit_glyph false (n % 10) ∷ acc)) here
    (digits_lack octet k (n / 10) (digit_glyph false (n % 10) ∷ acc) other here)

-- the text of a number lacks every octet that is no digit
pub decimal-lacks : (octet n : ℕ) → IsNoDigit octet → lacks octet (decimal n) ≡ true
unfolding digits
decimal-lacks octet n other = digits_lack octet 64 n [] other refl
