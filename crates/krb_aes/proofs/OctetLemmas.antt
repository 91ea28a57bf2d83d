-- Sums of lists of octets, element by element.
use Rattle.std.proofs.Common.{◌≡◌, ℕ, zero, suc, ◌<◌, List, [], ◌∷◌, length, map, get_or, bit_xor, refl, sym, ap, ◌∙◌, arith}
use Rattle.std.proofs.lemmas.List.{ext_get_or, get_or-map, length-map}
use Rattle.krb_aes.specs.Round.{xor_octets}

pub length-xor_octets : (xs ys : List ℕ) → length xs ≡ length ys → length (xor_octets xs ys) ≡ length xs
length-xor_octets [] ys e = refl
length-xor_octets (x ∷ xs) [] e = absurd (omega (arith, e))
length-xor_octets (x ∷ xs) (y ∷ ys) e = ap suc (length-xor_octets xs ys (omega (arith, e)))

pub get_or-xor_octets : (xs ys : List ℕ) (i : ℕ) → length xs ≡ length ys → i < length xs
    → get_or (xor_octets xs ys) i 0 ≡ bit_xor (get_or xs i 0) (get_or ys i 0)
get_or-xor_octets [] ys i e h = absurd (omega arith)
get_or-xor_octets (x ∷ xs) [] i e h = absurd (omega arith)
get_or-xor_octets (x ∷ xs) (y ∷ ys) zero e h = refl
get_or-xor_octets (x ∷ xs) (y ∷ ys) (suc i) e h = get_or-xor_octets xs ys i (omega arith) (omega arith)

-- a list that was filled with sums
pub xor_octets_from : (xs ys out : List ℕ) (n : ℕ) → length xs ≡ n → length ys ≡ n → length out ≡ n
    → ((k : ℕ) → k < n → get_or out k 0 ≡ bit_xor (get_or xs k 0) (get_or ys k 0)) → out ≡ xor_octets xs ys
xor_octets_from xs ys out n ex ey eo at =
    ext_get_or 0 out (xor_octets xs ys) (eo ∙ sym ex ∙ sym (length-xor_octets xs ys (ex ∙ sym ey)))
    (λ i h. at i (omega arith) ∙ sym (get_or-xor_octets xs ys i (ex ∙ sym ey) (omega arith)))

-- a list that was filled with what f gives
pub map_from : (f : ℕ → ℕ) (xs out : List ℕ) (n : ℕ) → length xs ≡ n → length out ≡ n
    → ((k : ℕ) → k < n → get_or out k 0 ≡ f (get_or xs k 0)) → out ≡ map f xs
map_from f xs out n ex eo at =
    ext_get_or 0 out (map f xs) (eo ∙ sym ex ∙ sym (length-map xs f))
    (λ i h. at i (omega arith) ∙ sym (get_or-map f xs i 0 0 (omega arith)))
