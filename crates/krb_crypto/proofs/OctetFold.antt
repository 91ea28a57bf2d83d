-- Eight bits of the copies of an n-fold at a time (RFC 3961, section 5.1): they are in two octets of the input, one after the other.
use Rattle.std.proofs.Common.{◌≡◌, ℕ, zero, suc, ◌+◌, ◌-◌, ◌*◌, ◌/◌, ◌%◌, ◌^◌, ◌<◌, ◌≤◌, List, length, slice_index, refl, sym, ap, ap₂, ◌∙◌, arith, inl, inr}
use Rattle.std.proofs.lemmas.Bool.{cases_lt}
use Rattle.std.proofs.lemmas.Nat.{div-mul-add, mod-mul-add, div-add-mod', mod-pow-add, field_of, shr-shr, shr_high, pow-add, mod_below}
use Rattle.std.proofs.Math.Nat.{mod-eq_of_lt, mod_self, mod-add-mod, add-mod_left, add-mul-mod_self_right, pow-suc, mul_assoc}
use Rattle.krb_crypto.specs.Fold.{bit_of, copies_bit, number_from}

-- more bits after the first
pub number_from-more : (s : List ℕ) (a k m : ℕ) → number_from s a (k + m) ≡ 2 ^ m * number_from s a k + number_from s (a + k) m
unfolding number_from
number_from-more s a k zero =
    let same : k + zero ≡ k = omega arith in
    rw same (omega arith)
number_from-more s a k (suc m) =
    let next : k + suc m ≡ suc (k + m) = omega arith in
    let place : a + (k + m) ≡ a + k + m = omega arith in
    rw (next, number_from-more s a k m, place, pow-suc 2 m) (omega arith)

-- ---- the place of a bit of the copies

-- the first of the eight bits of octet j of the copies
abbrev pub start_of : List ℕ → ℕ → ℕ
start_of s j = (8 * (j % length s) + (8 * length s - (13 * (j / length s)) % (8 * length s))) % (8 * length s)

octet_place : (j k m : ℕ) → 0 < m → k < 8 → (((8 * j + k) / (8 * m) ≡ j / m) × ((8 * j + k) % (8 * m) ≡ 8 * (j % m) + k))
octet_place j k m some few =
    let rest : j % m < m = mod_below j m some in
    let low : 8 * (j % m) + k < 8 * m = omega arith in
    let whole : 8 * j + k ≡ j / m * (8 * m) + (8 * (j % m) + k) = omega (arith, div-add-mod' j m) in (
      ap (λ (n : ℕ). n / (8 * m)) whole ∙ div-mul-add (j / m) (8 * m) (8 * (j % m) + k) low,
      ap (λ (n : ℕ). n % (8 * m)) whole ∙ mod-mul-add (j / m) (8 * m) (8 * (j % m) + k) low,
    )

-- bit k of the octet is k bits after its first
copies_bit-octet : (s : List ℕ) (j k : ℕ) → 0 < length s → k < 8 → copies_bit s (8 * j + k) ≡ bit_of s ((start_of s j + k) % (8 * length s))
unfolding copies_bit
copies_bit-octet s j k some few =
    let n : ℕ = 8 * length s in
    let place = octet_place j k (length s) some few in
    let turn : ℕ = n - (13 * (j / length s)) % n in
    let order : 8 * (j % length s) + k + turn ≡ 8 * (j % length s) + turn + k = omega arith in
    ap₂ (λ (x y : ℕ). bit_of s ((x + (n - (13 * y) % n)) % n)) place.1 place.0
    ∙ ap (λ (x : ℕ). bit_of s (x % n)) order
    ∙ ap (bit_of s) (sym (mod-add-mod (8 * (j % length s) + turn) n k))

-- ---- a bit of a pair of octets

-- bits past the eighth are those of the second octet
pair_low : (x y e : ℕ) → y < 256 → e < 8 → y / 2 ^ e % 2 ≡ (256 * x + y) / 2 ^ e % 2
pair_low x y e small few =
    let size : 7 - e + (1 + e) ≡ 8 = omega arith in
    let back : 2 ^ (7 - e) * 2 ^ (1 + e) ≡ 256 = sym (pow-add 2 (7 - e) (1 + e)) ∙ rw size refl in
    let grouped : x * 2 ^ (7 - e) * 2 ^ (1 + e) ≡ x * 256 = mul_assoc x (2 ^ (7 - e)) (2 ^ (1 + e)) ∙ ap (λ (k : ℕ). x * k) back in
    let whole : 256 * x + y ≡ y + x * 2 ^ (7 - e) * 2 ^ (1 + e) = omega (arith, grouped) in
    let same : (256 * x + y) % 2 ^ (1 + e) ≡ y % 2 ^ (1 + e) =
    ap (λ (k : ℕ). k % 2 ^ (1 + e)) whole ∙ add-mul-mod_self_right y (x * 2 ^ (7 - e)) (2 ^ (1 + e)) in
    sym (field_of y 1 e) ∙ ap (λ (k : ℕ). k / 2 ^ e) (sym same) ∙ field_of (256 * x + y) 1 e

pair_high : (x y e : ℕ) → y < 256 → x / 2 ^ e ≡ (256 * x + y) / 2 ^ (8 + e)
pair_high x y e small =
    let high : (256 * x + y) / 2 ^ 8 ≡ x = ap (λ (k : ℕ). k / 2 ^ 8) (omega arith) ∙ shr_high x 8 y small in
    ap (λ (k : ℕ). k / 2 ^ e) (sym high) ∙ shr-shr (256 * x + y) 8 e

-- the pair of octets that contains the octet
abbrev pub pair_at : List ℕ → ℕ → ℕ
pair_at s p = 256 * slice_index s (p / 8) + slice_index s ((p / 8 + 1) % length s)

-- a bit past the eighth is in the next octet, after the last in the first
next_octet : (p k m : ℕ) → p < 8 * m → k < 8 → 8 ≤ p % 8 + k
    → (((p + k) % (8 * m) / 8 ≡ (p / 8 + 1) % m) × ((p + k) % (8 * m) % 8 ≡ p % 8 + k - 8))
next_octet p k m fits few past = elim (cases_lt (p / 8 + 1) m) [
  | inl inside ↦
      let here : (p + k) % (8 * m) ≡ p + k = mod-eq_of_lt (omega arith) in
      let same : (p / 8 + 1) % m ≡ p / 8 + 1 = mod-eq_of_lt inside in
      rw (here, same) (omega arith, omega arith)
  | inr outside ↦
      let last : p / 8 + 1 ≡ m = omega arith in
      let bit : p % 8 + k - 8 < 8 * m = omega arith in
      let turn : p + k ≡ 8 * m + (p % 8 + k - 8) = omega arith in
      let here : (p + k) % (8 * m) ≡ p % 8 + k - 8 =
      ap (λ (n : ℕ). n % (8 * m)) turn ∙ add-mod_left (8 * m) (p % 8 + k - 8) ∙ mod-eq_of_lt bit in
      let first : (p / 8 + 1) % m ≡ 0 = ap (λ (n : ℕ). n % m) last ∙ mod_self m in
      rw (here, first) (omega arith, omega arith)
]

bit-pair : (s : List ℕ) (p k : ℕ) → 0 < length s → ((i : ℕ) → slice_index s i < 256) → p < 8 * length s → k < 8
    → bit_of s ((p + k) % (8 * length s)) ≡ pair_at s p / 2 ^ (15 - (p % 8 + k)) % 2
bit-pair s p k some octets fits few = elim (cases_lt (p % 8 + k) 8) [
  | inl first ↦
      let here : (p + k) % (8 * length s) ≡ p + k = mod-eq_of_lt (omega arith) in
      let octet : (p + k) / 8 ≡ p / 8 = omega arith in
      let bit : (p + k) % 8 ≡ p % 8 + k = omega arith in
      let shift : 15 - (p % 8 + k) ≡ 8 + (7 - (p % 8 + k)) = omega arith in
      rw (here, octet, bit, shift) (ap (λ (n : ℕ). n % 2) (pair_high (slice_index s (p / 8)) (slice_index s ((p / 8 + 1) % length s)) (7 - (p % 8 + k)) (octets _)))
  | inr second ↦
      let m : ℕ = p % 8 + k - 8 in
      let shift : 15 - (p % 8 + k) ≡ 7 - m = omega arith in
      let place = next_octet p k (length s) fits few second in
      rw (place.0, place.1, shift) (pair_low (slice_index s (p / 8)) (slice_index s ((p / 8 + 1) % length s)) (7 - m) (octets _) (omega arith))
]

-- the first k bits of the octet
first_bits : (s : List ℕ) (j k : ℕ) → 0 < length s → ((i : ℕ) → slice_index s i < 256) → k ≤ 8
    → number_from s (8 * j) k ≡ pair_at s (start_of s j) / 2 ^ (16 - (start_of s j % 8 + k)) % 2 ^ k
unfolding number_from
first_bits s j zero some octets few = omega arith
first_bits s j (suc k) some octets few =
    let p : ℕ = start_of s j in
    let w : ℕ = pair_at s p in
    let e : ℕ = 15 - (p % 8 + k) in
    let fits : p < 8 * length s = mod_below _ (8 * length s) (omega arith) in
    let here : number_from s (8 * j) k ≡ w / 2 ^ (16 - (p % 8 + k)) % 2 ^ k = first_bits s j k some octets (omega arith) in
    let bit : copies_bit s (8 * j + k) ≡ w / 2 ^ e % 2 = copies_bit-octet s j k some (omega arith) ∙ bit-pair s p k some octets fits (omega arith) in
    let more : 16 - (p % 8 + k) ≡ e + 1 = omega arith in
    let least : 16 - (p % 8 + suc k) ≡ e = omega arith in
    let one : suc k ≡ k + 1 = omega arith in
    let halves : w / 2 ^ e % 2 ^ (k + 1) ≡ (w / 2 ^ e / 2 ^ 1 % 2 ^ k) * 2 ^ 1 + w / 2 ^ e % 2 ^ 1 = mod-pow-add (w / 2 ^ e) k 1 in
    let high : w / 2 ^ e / 2 ^ 1 ≡ w / 2 ^ (e + 1) = shr-shr w e 1 in
    rw (here, bit, more, least, one, halves, high) (omega arith)

-- an octet of the copies, from the pair of octets that contains it
pub octet_of_copies : (s : List ℕ) (j : ℕ) → 0 < length s → ((i : ℕ) → slice_index s i < 256)
    → pair_at s (start_of s j) / 2 ^ (8 - start_of s j % 8) % 256 ≡ number_from s (8 * j) 8
octet_of_copies s j some octets =
    let shift : 16 - (start_of s j % 8 + 8) ≡ 8 - start_of s j % 8 = omega arith in
    sym (first_bits s j 8 some octets (omega arith) ∙ ap (λ (n : ℕ). pair_at s (start_of s j) / 2 ^ n % 2 ^ 8) shift)
