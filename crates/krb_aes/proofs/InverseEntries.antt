-- A round of decryption on the lanes of a vector undoes a round of AES: the entries of the tables are computed at each octet.
use Rattle.std.proofs.Common.{◌≡◌, ℕ, zero, suc, ◌%◌, ◌/◌, ◌<◌, T, ltb, List, [], ◌∷◌, map, length, get_or, bit_xor, refl, sym, ap, ap₂, ◌∙◌, arith}
use Rattle.std.specs.List.{range_with_len}
use Rattle.std.proofs.Math.Facts.{ltb_yes}
use Rattle.std.proofs.lemmas.Nat.{xor_of_8}
use Rattle.krb_aes.specs.Field.{x_times, product_of_low, product, sub}
use Rattle.krb_aes.specs.Round.{xor_octets, mix_column}
use Rattle.krb_aes.proofs.FieldLemmas.{agree_at, agree_at_pair}
use Rattle.krb_aes.proofs.InverseLemmas.{mix_column-xor, one_of_four}
use Rattle.krb_aes.proofs.RoundLemmas.{cons_same}
use Rattle.krb_aes.specs.declared.tables.TheConstants.{LINEAR_BACK_LOW, LINEAR_BACK_HIGH, INVERTED_U, INVERTED_T, NINE_U, NINE_T, ELEVEN_U, ELEVEN_T, THIRTEEN_U, THIRTEEN_T, FOURTEEN_U, FOURTEEN_T}
use Rattle.krb_aes.specs.Tower.{entry, first_quotient, second_quotient, sum_at, pair_sum, sum_of_bits, tower, linear_back, affine_back}
use Rattle.krb_aes.proofs.EachOctet.{all_below, every_below, agree, same_octet}
use Rattle.krb_aes.proofs.SubBytesEntries.{SBOX, sub_entry, sub_entry_is}
use Rattle.krb_aes.proofs.Sums.{Sum, same_sum}

-- ---- octets in the tower

-- an octet after SubBytes in the tower, from the tables of its halves
abbrev pub back_entry : ℕ → ℕ
back_entry x = bit_xor (entry LINEAR_BACK_LOW (x % 16)) (entry LINEAR_BACK_HIGH (x / 16))

pub back_entry_agrees : agree back_entry linear_back
unfolding entry sum_of_bits tower linear_back
back_entry_agrees = tt

back_entry_is : (x : ℕ) → x < 256 → back_entry x ≡ linear_back x
back_entry_is = same_octet back_entry linear_back back_entry_agrees

back_entry_sums : map (λ a. map (λ b. back_entry (bit_xor a b)) (range_with_len 0 256)) (range_with_len 0 256)
    ≡ map (λ a. map (λ b. bit_xor (back_entry a) (back_entry b)) (range_with_len 0 256)) (range_with_len 0 256)
unfolding entry
back_entry_sums = refl

pub linear_back-xor : (a b : ℕ) → a < 256 → b < 256 → linear_back (bit_xor a b) ≡ bit_xor (linear_back a) (linear_back b)
linear_back-xor a b ha hb =
    sym (back_entry_is (bit_xor a b) (xor_of_8 a b ha hb))
    ∙ agree_at_pair (λ x y. back_entry (bit_xor x y)) (λ x y. bit_xor (back_entry x) (back_entry y)) a b back_entry_sums ha hb
    ∙ ap₂ bit_xor (back_entry_is a ha) (back_entry_is b hb)

-- the octet of the field before SubBytes: the inverse of an octet of the tower
unfoldable pub inverted : ℕ → ℕ
inverted x = pair_sum INVERTED_U INVERTED_T x

inverted_below : T (all_below (λ x. ltb (inverted x) 256) 256)
unfolding entry first_quotient second_quotient sum_at pair_sum inverted
inverted_below = tt

pub inverted_octet : (x : ℕ) → x < 256 → inverted x < 256
inverted_octet x h = ltb_yes (every_below (λ x. ltb (inverted x) 256) 256 inverted_below x h)

-- the way back undoes SubBytes
affine_back-entry : agree (λ x. affine_back (sub_entry (inverted x))) (λ x. x)
unfolding SBOX entry first_quotient second_quotient sum_at pair_sum sum_of_bits tower linear_back affine_back inverted
affine_back-entry = tt

pub affine_back-sub-inverted : (x : ℕ) → x < 256 → affine_back (sub (inverted x)) ≡ x
affine_back-sub-inverted x h =
    ap affine_back (sym (sub_entry_is (inverted x) (inverted_octet x h))) ∙ same_octet (λ x. affine_back (sub_entry (inverted x))) (λ x. x) affine_back-entry x h

inverted-entry : agree (λ x. inverted (affine_back (sub_entry x))) (λ x. x)
unfolding SBOX entry first_quotient second_quotient sum_at pair_sum sum_of_bits tower linear_back affine_back inverted
inverted-entry = tt

pub inverted-affine_back-sub : (x : ℕ) → x < 256 → inverted (affine_back (sub x)) ≡ x
inverted-affine_back-sub x h =
    ap (λ (n : ℕ). inverted (affine_back n)) (sym (sub_entry_is x h)) ∙ same_octet (λ x. inverted (affine_back (sub_entry x))) (λ x. x) inverted-entry x h

affine_back_below : T (all_below (λ x. ltb (affine_back x) 256) 256)
unfolding sum_of_bits tower linear_back affine_back
affine_back_below = tt

affine_back_octet : (x : ℕ) → x < 256 → affine_back x < 256
affine_back_octet x h = ltb_yes (every_below (λ x. ltb (affine_back x) 256) 256 affine_back_below x h)

undone_entry : agree (λ y. sub_entry (inverted (affine_back y))) (λ y. y)
unfolding SBOX entry first_quotient second_quotient sum_at pair_sum sum_of_bits tower linear_back affine_back inverted
undone_entry = tt

undone : (y : ℕ) → y < 256 → sub (inverted (affine_back y)) ≡ y
undone y h =
    sym (sub_entry_is (inverted (affine_back y)) (inverted_octet (affine_back y) (affine_back_octet y h)))
    ∙ same_octet (λ y. sub_entry (inverted (affine_back y))) (λ y. y) undone_entry y h

-- different octets stay different
pub affine_back_injective : (x y : ℕ) → x < 256 → y < 256 → affine_back x ≡ affine_back y → x ≡ y
affine_back_injective x y hx hy e =
    sym (undone x hx) ∙ ap (λ n. sub (inverted n)) e ∙ undone y hy

pub affine_back_injective_list : (xs ys : List ℕ) → ((i : ℕ) → get_or xs i 0 < 256) → ((i : ℕ) → get_or ys i 0 < 256) → map affine_back xs ≡ map affine_back ys → length xs ≡ length ys → xs ≡ ys
affine_back_injective_list [] [] hx hy e n = refl
affine_back_injective_list [] (y ∷ ys) hx hy e n = absurd (omega (arith, n))
affine_back_injective_list (x ∷ xs) [] hx hy e n = absurd (omega (arith, n))
affine_back_injective_list (x ∷ xs) (y ∷ ys) hx hy e n =
    cons_same (affine_back_injective x y (hx zero) (hy zero) (ap (λ (l : List ℕ). get_or l 0 0) e))
    (affine_back_injective_list xs ys (λ i. hx (suc i)) (λ i. hy (suc i)) (ap (λ (l : List ℕ). tail l) e) (omega (arith, n)))
  where
    tail : List ℕ → List ℕ
    tail [] = []
    tail (x ∷ xs) = xs

nine_agrees : agree (pair_sum NINE_U NINE_T) (λ x. linear_back (product 9 (inverted x)))
unfolding x_times product_of_low product entry first_quotient second_quotient sum_at pair_sum sum_of_bits tower linear_back affine_back inverted
nine_agrees = tt

pub nine_is : (x : ℕ) → x < 256 → pair_sum NINE_U NINE_T x ≡ linear_back (product 9 (inverted x))
nine_is = same_octet (pair_sum NINE_U NINE_T) (λ x. linear_back (product 9 (inverted x))) nine_agrees

nine_below : T (all_below (λ x. ltb (product 9 x) 256) 256)
unfolding x_times product_of_low product
nine_below = tt

pub nine_octet : (x : ℕ) → x < 256 → product 9 x < 256
nine_octet x h = ltb_yes (every_below (λ x. ltb (product 9 x) 256) 256 nine_below x h)

eleven_agrees : agree (pair_sum ELEVEN_U ELEVEN_T) (λ x. linear_back (product 11 (inverted x)))
unfolding x_times product_of_low product entry first_quotient second_quotient sum_at pair_sum sum_of_bits tower linear_back affine_back inverted
eleven_agrees = tt

pub eleven_is : (x : ℕ) → x < 256 → pair_sum ELEVEN_U ELEVEN_T x ≡ linear_back (product 11 (inverted x))
eleven_is = same_octet (pair_sum ELEVEN_U ELEVEN_T) (λ x. linear_back (product 11 (inverted x))) eleven_agrees

eleven_below : T (all_below (λ x. ltb (product 11 x) 256) 256)
unfolding x_times product_of_low product
eleven_below = tt

pub eleven_octet : (x : ℕ) → x < 256 → product 11 x < 256
eleven_octet x h = ltb_yes (every_below (λ x. ltb (product 11 x) 256) 256 eleven_below x h)

thirteen_agrees : agree (pair_sum THIRTEEN_U THIRTEEN_T) (λ x. linear_back (product 13 (inverted x)))
unfolding x_times product_of_low product entry first_quotient second_quotient sum_at pair_sum sum_of_bits tower linear_back affine_back inverted
thirteen_agrees = tt

pub thirteen_is : (x : ℕ) → x < 256 → pair_sum THIRTEEN_U THIRTEEN_T x ≡ linear_back (product 13 (inverted x))
thirteen_is = same_octet (pair_sum THIRTEEN_U THIRTEEN_T) (λ x. linear_back (product 13 (inverted x))) thirteen_agrees

thirteen_below : T (all_below (λ x. ltb (product 13 x) 256) 256)
unfolding x_times product_of_low product
thirteen_below = tt

pub thirteen_octet : (x : ℕ) → x < 256 → product 13 x < 256
thirteen_octet x h = ltb_yes (every_below (λ x. ltb (product 13 x) 256) 256 thirteen_below x h)

fourteen_agrees : agree (pair_sum FOURTEEN_U FOURTEEN_T) (λ x. linear_back (product 14 (inverted x)))
unfolding x_times product_of_low product entry first_quotient second_quotient sum_at pair_sum sum_of_bits tower linear_back affine_back inverted
fourteen_agrees = tt

pub fourteen_is : (x : ℕ) → x < 256 → pair_sum FOURTEEN_U FOURTEEN_T x ≡ linear_back (product 14 (inverted x))
fourteen_is = same_octet (pair_sum FOURTEEN_U FOURTEEN_T) (λ x. linear_back (product 14 (inverted x))) fourteen_agrees

fourteen_below : T (all_below (λ x. ltb (product 14 x) 256) 256)
unfolding x_times product_of_low product
fourteen_below = tt

pub fourteen_octet : (x : ℕ) → x < 256 → product 14 x < 256
fourteen_octet x h = ltb_yes (every_below (λ x. ltb (product 14 x) 256) 256 fourteen_below x h)

-- ---- the inverse of MixColumns

-- an octet of a column from the column's four octets in the next state, its own first
abbrev pub unmixed : ℕ → ℕ → ℕ → ℕ → ℕ
unmixed p q r t = bit_xor (bit_xor (bit_xor (product 9 t) (product 13 r)) (product 11 q)) (product 14 p)

first_unmixed : map (λ x. mix_column (product 14 x) (product 9 x) (product 13 x) (product 11 x)) (range_with_len 0 256) ≡ map (λ x. x ∷ 0 ∷ 0 ∷ 0 ∷ []) (range_with_len 0 256)
unfolding x_times product_of_low product
first_unmixed = refl

second_unmixed : map (λ x. mix_column (product 11 x) (product 14 x) (product 9 x) (product 13 x)) (range_with_len 0 256) ≡ map (λ x. 0 ∷ x ∷ 0 ∷ 0 ∷ []) (range_with_len 0 256)
unfolding x_times product_of_low product
second_unmixed = refl

third_unmixed : map (λ x. mix_column (product 13 x) (product 11 x) (product 14 x) (product 9 x)) (range_with_len 0 256) ≡ map (λ x. 0 ∷ 0 ∷ x ∷ 0 ∷ []) (range_with_len 0 256)
unfolding x_times product_of_low product
third_unmixed = refl

fourth_unmixed : map (λ x. mix_column (product 9 x) (product 13 x) (product 11 x) (product 14 x)) (range_with_len 0 256) ≡ map (λ x. 0 ∷ 0 ∷ 0 ∷ x ∷ []) (range_with_len 0 256)
unfolding x_times product_of_low product
fourth_unmixed = refl

first_row : (a b c d : ℕ) → unmixed a b c d ≡ bit_xor (bit_xor (bit_xor (product 14 a) (product 11 b)) (product 13 c)) (product 9 d)
first_row a b c d = same_sum (product 9 d ∷ product 13 c ∷ product 11 b ∷ product 14 a ∷ []) (Sum.plus (Sum.plus (Sum.plus (Sum.term 0) (Sum.term 1)) (Sum.term 2)) (Sum.term 3)) (Sum.plus (Sum.plus (Sum.plus (Sum.term 3) (Sum.term 2)) (Sum.term 1)) (Sum.term 0)) refl

second_row : (a b c d : ℕ) → unmixed b c d a ≡ bit_xor (bit_xor (bit_xor (product 9 a) (product 14 b)) (product 11 c)) (product 13 d)
second_row a b c d = same_sum (product 9 a ∷ product 13 d ∷ product 11 c ∷ product 14 b ∷ []) (Sum.plus (Sum.plus (Sum.plus (Sum.term 0) (Sum.term 1)) (Sum.term 2)) (Sum.term 3)) (Sum.plus (Sum.plus (Sum.plus (Sum.term 0) (Sum.term 3)) (Sum.term 2)) (Sum.term 1)) refl

third_row : (a b c d : ℕ) → unmixed c d a b ≡ bit_xor (bit_xor (bit_xor (product 13 a) (product 9 b)) (product 14 c)) (product 11 d)
third_row a b c d = same_sum (product 9 b ∷ product 13 a ∷ product 11 d ∷ product 14 c ∷ []) (Sum.plus (Sum.plus (Sum.plus (Sum.term 0) (Sum.term 1)) (Sum.term 2)) (Sum.term 3)) (Sum.plus (Sum.plus (Sum.plus (Sum.term 1) (Sum.term 0)) (Sum.term 3)) (Sum.term 2)) refl

fourth_row : (a b c d : ℕ) → unmixed d a b c ≡ bit_xor (bit_xor (bit_xor (product 11 a) (product 13 b)) (product 9 c)) (product 14 d)
fourth_row a b c d = same_sum (product 9 c ∷ product 13 b ∷ product 11 a ∷ product 14 d ∷ []) (Sum.plus (Sum.plus (Sum.plus (Sum.term 0) (Sum.term 1)) (Sum.term 2)) (Sum.term 3)) (Sum.plus (Sum.plus (Sum.plus (Sum.term 2) (Sum.term 1)) (Sum.term 0)) (Sum.term 3)) refl

four_same : {x y : List ℕ} → x ≡ y → {a b c d a' b' c' d' : ℕ} → a ≡ a' → b ≡ b' → c ≡ c' → d ≡ d' → mix_column a b c d ≡ mix_column a' b' c' d'
four_same e p q r t = rw (p, q, r, t) refl

pub mix-unmixed : (a b c d : ℕ) → a < 256 → b < 256 → c < 256 → d < 256
    → mix_column (unmixed a b c d) (unmixed b c d a) (unmixed c d a b) (unmixed d a b c) ≡ a ∷ b ∷ c ∷ d ∷ []
mix-unmixed a b c d ha hb hc hd =
    let x = λ (m n : ℕ) (p : m < 256) (q : n < 256). xor_of_8 m n p q in
    let a9 = nine_octet a ha in
    let a11 = eleven_octet a ha in
    let a13 = thirteen_octet a ha in
    let a14 = fourteen_octet a ha in
    let b9 = nine_octet b hb in
    let b11 = eleven_octet b hb in
    let b13 = thirteen_octet b hb in
    let b14 = fourteen_octet b hb in
    let c9 = nine_octet c hc in
    let c11 = eleven_octet c hc in
    let c13 = thirteen_octet c hc in
    let c14 = fourteen_octet c hc in
    let d9 = nine_octet d hd in
    let d11 = eleven_octet d hd in
    let d13 = thirteen_octet d hd in
    let d14 = fourteen_octet d hd in
    four_same {x = []} refl (first_row a b c d) (second_row a b c d) (third_row a b c d) (fourth_row a b c d)
    ∙ mix_column-xor _ _ _ _ _ _ _ _
    (x _ _ (x _ _ a14 b11) c13) (x _ _ (x _ _ a9 b14) c11) (x _ _ (x _ _ a13 b9) c14) (x _ _ (x _ _ a11 b13) c9) d9 d13 d11 d14
    ∙ ap₂ xor_octets
    (mix_column-xor _ _ _ _ _ _ _ _ (x _ _ a14 b11) (x _ _ a9 b14) (x _ _ a13 b9) (x _ _ a11 b13) c13 c11 c14 c9
    ∙ ap₂ xor_octets
    (mix_column-xor _ _ _ _ _ _ _ _ a14 a9 a13 a11 b11 b14 b9 b13
    ∙ ap₂ xor_octets (agree_at (λ x. mix_column (product 14 x) (product 9 x) (product 13 x) (product 11 x)) (λ x. x ∷ 0 ∷ 0 ∷ 0 ∷ []) a first_unmixed ha)
    (agree_at (λ x. mix_column (product 11 x) (product 14 x) (product 9 x) (product 13 x)) (λ x. 0 ∷ x ∷ 0 ∷ 0 ∷ []) b second_unmixed hb))
    (agree_at (λ x. mix_column (product 13 x) (product 11 x) (product 14 x) (product 9 x)) (λ x. 0 ∷ 0 ∷ x ∷ 0 ∷ []) c third_unmixed hc))
    (agree_at (λ x. mix_column (product 9 x) (product 13 x) (product 11 x) (product 14 x)) (λ x. 0 ∷ 0 ∷ 0 ∷ x ∷ []) d fourth_unmixed hd)
    ∙ one_of_four a b c d

linear_back_below : T (all_below (λ x. ltb (linear_back x) 256) 256)
unfolding sum_of_bits tower linear_back
linear_back_below = tt

pub linear_back_octet : (x : ℕ) → x < 256 → linear_back x < 256
linear_back_octet x h = ltb_yes (every_below (λ x. ltb (linear_back x) 256) 256 linear_back_below x h)
