-- A round back on the lanes of a vector, in the tower.
use Rattle.std.proofs.Common.{◌≡◌, ℕ, zero, suc, ◌<◌, List, [], ◌∷◌, ◌++◌, map, get_or, slice_index, bit_xor, refl, sym, subst, ap, ap₂, ◌∙◌, arith}
use lib.Lanes.{zip2, Each1, pick_l}
use Rattle.std.specs.List.{range_with_len}
use Rattle.std.specs.Int.Bits.{xor_assoc}
use Rattle.std.proofs.lemmas.Nat.{xor_of_8}
use Rattle.krb_aes.specs.Field.{product, sub}
use Rattle.krb_aes.specs.Octets.{IsBlock}
use Rattle.krb_aes.specs.Round.{xor_octets, mix_column, mix_columns, shifted, full_round}
use Rattle.krb_aes.proofs.InverseLemmas.{mix_column-xor, xor_octets_twice}
use Rattle.krb_aes.proofs.InjectiveLemmas.{IsBlock-shift_rows, IsBlock-map_sub}
use Rattle.krb_aes.proofs.RoundLemmas.{cons_same, four_columns, read_all}
use Rattle.krb_aes.specs.declared.tables.TheConstants.{NINE_U, NINE_T, ELEVEN_U, ELEVEN_T, THIRTEEN_U, THIRTEEN_T, FOURTEEN_U, FOURTEEN_T, INVERTED_U, INVERTED_T}
use Rattle.krb_aes.specs.Tower.{pair_sum, linear_back, affine_back, turned, unshifted}
use Rattle.krb_aes.proofs.EachOctet.{same_map}
use Rattle.krb_aes.proofs.Sums.{Sum, same_sum}
use Rattle.krb_aes.proofs.LookUps.{IsVector, lane_fits}
use Rattle.krb_aes.proofs.InverseEntries.{inverted, linear_back-xor, linear_back_octet, inverted_octet, affine_back-sub-inverted, affine_back_injective_list, nine_is, eleven_is, thirteen_is, fourteen_is, nine_octet, eleven_octet, thirteen_octet, fourteen_octet, unmixed, mix-unmixed}

pub unmixed_octet : (p q r t : ℕ) → p < 256 → q < 256 → r < 256 → t < 256 → unmixed p q r t < 256
unmixed_octet p q r t hp hq hr ht =
    xor_of_8 _ _ (xor_of_8 _ _ (xor_of_8 _ _ (nine_octet t ht) (thirteen_octet r hr)) (eleven_octet q hq)) (fourteen_octet p hp)

pub lane_back' : (p q r t k : ℕ) → p < 256 → q < 256 → r < 256 → t < 256 → k < 256
    → bit_xor (bit_xor (bit_xor (bit_xor (linear_back (product 9 t)) (linear_back (product 13 r))) (linear_back (product 11 q))) (linear_back (product 14 p))) (affine_back k)
    ≡ affine_back (bit_xor (unmixed p q r t) k)
unfolding affine_back
lane_back' p q r t k hp hq hr ht hk =
    let a = nine_octet t ht in
    let b = thirteen_octet r hr in
    let c = eleven_octet q hq in
    let d = fourteen_octet p hp in
    ap (λ (n : ℕ). bit_xor n (linear_back (bit_xor k 0x63)))
    (ap (λ (n : ℕ). bit_xor n (linear_back (product 14 p)))
    (ap (λ (n : ℕ). bit_xor n (linear_back (product 11 q))) (sym (linear_back-xor _ _ a b)) ∙ sym (linear_back-xor _ _ (xor_of_8 _ _ a b) c))
    ∙ sym (linear_back-xor _ _ (xor_of_8 _ _ (xor_of_8 _ _ a b) c) d))
    ∙ sym (linear_back-xor _ _ (unmixed_octet p q r t hp hq hr ht) (xor_of_8 k 0x63 hk (omega arith)))
    ∙ ap linear_back (sym (xor_assoc (unmixed p q r t) k 0x63))

key_last : (a b c d k : ℕ) → bit_xor (bit_xor (bit_xor (bit_xor a k) b) c) d ≡ bit_xor (bit_xor (bit_xor (bit_xor a b) c) d) k
key_last a b c d k =
    same_sum (a ∷ b ∷ c ∷ d ∷ k ∷ []) (Sum.plus (Sum.plus (Sum.plus (Sum.plus (Sum.term 0) (Sum.term 4)) (Sum.term 1)) (Sum.term 2)) (Sum.term 3))
    (Sum.plus (Sum.plus (Sum.plus (Sum.plus (Sum.term 0) (Sum.term 1)) (Sum.term 2)) (Sum.term 3)) (Sum.term 4)) refl

lane_back : (p q r t k : ℕ) → p < 256 → q < 256 → r < 256 → t < 256 → k < 256
    → bit_xor (bit_xor (bit_xor (bit_xor (linear_back (product 9 t)) (affine_back k)) (linear_back (product 13 r))) (linear_back (product 11 q))) (linear_back (product 14 p))
    ≡ affine_back (bit_xor (unmixed p q r t) k)
lane_back p q r t k hp hq hr ht hk =
    key_last (linear_back (product 9 t)) (linear_back (product 13 r)) (linear_back (product 11 q)) (linear_back (product 14 p)) (affine_back k) ∙ lane_back' p q r t k hp hq hr ht hk

abbrev pub back_lanes : List ℕ → List ℕ → List ℕ → List ℕ → List ℕ → List ℕ
back_lanes nine thirteen eleven fourteen key =
    let a : List ℕ = zip2 bit_xor nine key in
    let b : List ℕ = zip2 bit_xor (turned a) thirteen in
    let c : List ℕ = zip2 bit_xor (turned b) eleven in
    zip2 bit_xor (turned c) fourteen

abbrev pub open_lanes : List ℕ → List ℕ → List ℕ
open_lanes plain key = zip2 bit_xor (pick_l 0 (plain ++ plain) (0 ∷ 13 ∷ 10 ∷ 7 ∷ 4 ∷ 1 ∷ 14 ∷ 11 ∷ 8 ∷ 5 ∷ 2 ∷ 15 ∷ 12 ∷ 9 ∷ 6 ∷ 3 ∷ [])) key

abbrev pub read : List ℕ → List ℕ
read s = map (slice_index s) (range_with_len 0 16)

abbrev pub moved_list : List ℕ → List ℕ
moved_list v = get_or v 0 0 ∷ get_or v 13 0 ∷ get_or v 10 0 ∷ get_or v 7 0 ∷ get_or v 4 0 ∷ get_or v 1 0 ∷ get_or v 14 0 ∷ get_or v 11 0 ∷ get_or v 8 0 ∷ get_or v 5 0 ∷ get_or v 2 0 ∷ get_or v 15 0 ∷ get_or v 12 0 ∷ get_or v 9 0 ∷ get_or v 6 0 ∷ get_or v 3 0 ∷ []

-- the octets before SubBytes and ShiftRows
abbrev pub before : List ℕ → List ℕ
before v = inverted (get_or v 0 0) ∷ inverted (get_or v 13 0) ∷ inverted (get_or v 10 0) ∷ inverted (get_or v 7 0) ∷ inverted (get_or v 4 0) ∷ inverted (get_or v 1 0) ∷ inverted (get_or v 14 0) ∷ inverted (get_or v 11 0) ∷ inverted (get_or v 8 0) ∷ inverted (get_or v 5 0) ∷ inverted (get_or v 2 0) ∷ inverted (get_or v 15 0) ∷ inverted (get_or v 12 0) ∷ inverted (get_or v 9 0) ∷ inverted (get_or v 6 0) ∷ inverted (get_or v 3 0) ∷ []

-- the octets before MixColumns and the round key
abbrev pub returned : List ℕ → List ℕ → List ℕ
returned v k =
    bit_xor (unmixed (inverted (get_or v 0 0)) (inverted (get_or v 13 0)) (inverted (get_or v 10 0)) (inverted (get_or v 7 0))) (get_or k 0 0) ∷
    bit_xor (unmixed (inverted (get_or v 13 0)) (inverted (get_or v 10 0)) (inverted (get_or v 7 0)) (inverted (get_or v 0 0))) (get_or k 1 0) ∷
    bit_xor (unmixed (inverted (get_or v 10 0)) (inverted (get_or v 7 0)) (inverted (get_or v 0 0)) (inverted (get_or v 13 0))) (get_or k 2 0) ∷
    bit_xor (unmixed (inverted (get_or v 7 0)) (inverted (get_or v 0 0)) (inverted (get_or v 13 0)) (inverted (get_or v 10 0))) (get_or k 3 0) ∷
    bit_xor (unmixed (inverted (get_or v 4 0)) (inverted (get_or v 1 0)) (inverted (get_or v 14 0)) (inverted (get_or v 11 0))) (get_or k 4 0) ∷
    bit_xor (unmixed (inverted (get_or v 1 0)) (inverted (get_or v 14 0)) (inverted (get_or v 11 0)) (inverted (get_or v 4 0))) (get_or k 5 0) ∷
    bit_xor (unmixed (inverted (get_or v 14 0)) (inverted (get_or v 11 0)) (inverted (get_or v 4 0)) (inverted (get_or v 1 0))) (get_or k 6 0) ∷
    bit_xor (unmixed (inverted (get_or v 11 0)) (inverted (get_or v 4 0)) (inverted (get_or v 1 0)) (inverted (get_or v 14 0))) (get_or k 7 0) ∷
    bit_xor (unmixed (inverted (get_or v 8 0)) (inverted (get_or v 5 0)) (inverted (get_or v 2 0)) (inverted (get_or v 15 0))) (get_or k 8 0) ∷
    bit_xor (unmixed (inverted (get_or v 5 0)) (inverted (get_or v 2 0)) (inverted (get_or v 15 0)) (inverted (get_or v 8 0))) (get_or k 9 0) ∷
    bit_xor (unmixed (inverted (get_or v 2 0)) (inverted (get_or v 15 0)) (inverted (get_or v 8 0)) (inverted (get_or v 5 0))) (get_or k 10 0) ∷
    bit_xor (unmixed (inverted (get_or v 15 0)) (inverted (get_or v 8 0)) (inverted (get_or v 5 0)) (inverted (get_or v 2 0))) (get_or k 11 0) ∷
    bit_xor (unmixed (inverted (get_or v 12 0)) (inverted (get_or v 9 0)) (inverted (get_or v 6 0)) (inverted (get_or v 3 0))) (get_or k 12 0) ∷
    bit_xor (unmixed (inverted (get_or v 9 0)) (inverted (get_or v 6 0)) (inverted (get_or v 3 0)) (inverted (get_or v 12 0))) (get_or k 13 0) ∷
    bit_xor (unmixed (inverted (get_or v 6 0)) (inverted (get_or v 3 0)) (inverted (get_or v 12 0)) (inverted (get_or v 9 0))) (get_or k 14 0) ∷
    bit_xor (unmixed (inverted (get_or v 3 0)) (inverted (get_or v 12 0)) (inverted (get_or v 9 0)) (inverted (get_or v 6 0))) (get_or k 15 0) ∷ []

lanes_back : (v k : List ℕ) → ((i : ℕ) → get_or v i 0 < 256) → ((i : ℕ) → get_or k i 0 < 256)
    → back_lanes (map (λ x. linear_back (product 9 (inverted x))) (moved_list v)) (map (λ x. linear_back (product 13 (inverted x))) (moved_list v)) (map (λ x. linear_back (product 11 (inverted x))) (moved_list v))
    (map (λ x. linear_back (product 14 (inverted x))) (moved_list v)) (turned (map affine_back (read k))) ≡ map affine_back (returned v k)
lanes_back v k f h =
    let z = λ (i : ℕ). inverted_octet (get_or v i 0) (f i) in
    cons_same (lane_back _ _ _ _ _ (z 0) (z 13) (z 10) (z 7) (h 0))
    (cons_same (lane_back _ _ _ _ _ (z 13) (z 10) (z 7) (z 0) (h 1))
    (cons_same (lane_back _ _ _ _ _ (z 10) (z 7) (z 0) (z 13) (h 2))
    (cons_same (lane_back _ _ _ _ _ (z 7) (z 0) (z 13) (z 10) (h 3))
    (cons_same (lane_back _ _ _ _ _ (z 4) (z 1) (z 14) (z 11) (h 4))
    (cons_same (lane_back _ _ _ _ _ (z 1) (z 14) (z 11) (z 4) (h 5))
    (cons_same (lane_back _ _ _ _ _ (z 14) (z 11) (z 4) (z 1) (h 6))
    (cons_same (lane_back _ _ _ _ _ (z 11) (z 4) (z 1) (z 14) (h 7))
    (cons_same (lane_back _ _ _ _ _ (z 8) (z 5) (z 2) (z 15) (h 8))
    (cons_same (lane_back _ _ _ _ _ (z 5) (z 2) (z 15) (z 8) (h 9))
    (cons_same (lane_back _ _ _ _ _ (z 2) (z 15) (z 8) (z 5) (h 10))
    (cons_same (lane_back _ _ _ _ _ (z 15) (z 8) (z 5) (z 2) (h 11))
    (cons_same (lane_back _ _ _ _ _ (z 12) (z 9) (z 6) (z 3) (h 12))
    (cons_same (lane_back _ _ _ _ _ (z 9) (z 6) (z 3) (z 12) (h 13))
    (cons_same (lane_back _ _ _ _ _ (z 6) (z 3) (z 12) (z 9) (h 14))
    (cons_same (lane_back _ _ _ _ _ (z 3) (z 12) (z 9) (z 6) (h 15))
    (refl))))))))))))))))

pub below_at : (env : List ℕ) → Each1 (λ x. x < 256) env → (i : ℕ) → get_or env i 0 < 256
below_at [] h i = omega arith
below_at (x ∷ xs) h zero = h.0
below_at (x ∷ xs) h (suc i) = below_at xs h.1 i

pub moved_below : (v : List ℕ) → ((i : ℕ) → get_or v i 0 < 256) → Each1 (λ x. x < 256) (moved_list v)
moved_below v f = (f 0, (f 13, (f 10, (f 7, (f 4, (f 1, (f 14, (f 11, (f 8, (f 5, (f 2, (f 15, (f 12, (f 9, (f 6, (f 3, tt))))))))))))))))

returned_below : (v k : List ℕ) → ((i : ℕ) → get_or v i 0 < 256) → ((i : ℕ) → get_or k i 0 < 256) → Each1 (λ x. x < 256) (returned v k)
returned_below v k f h =
    let z = λ (i : ℕ). inverted_octet (get_or v i 0) (f i) in
    let u = λ (i j k l m : ℕ). xor_of_8 _ _ (unmixed_octet _ _ _ _ (z i) (z j) (z k) (z l)) (h m) in
    (u 0 13 10 7 0, (u 13 10 7 0 1, (u 10 7 0 13 2, (u 7 0 13 10 3, (u 4 1 14 11 4, (u 1 14 11 4 5, (u 14 11 4 1 6, (u 11 4 1 14 7, (u 8 5 2 15 8, (u 5 2 15 8 9, (u 2 15 8 5 10, (u 15 8 5 2 11, (u 12 9 6 3 12, (u 9 6 3 12 13, (u 6 3 12 9 14, (u 3 12 9 6 15, tt))))))))))))))))

mix-returned : (v k : List ℕ) → ((i : ℕ) → get_or v i 0 < 256) → ((i : ℕ) → get_or k i 0 < 256)
    → mix_columns (returned v k) ≡ xor_octets (before v) (mix_columns (read k))
mix-returned v k f h =
    let z = λ (i : ℕ). inverted_octet (get_or v i 0) (f i) in
    four_columns
    (mix_column-xor _ _ _ _ _ _ _ _ (unmixed_octet _ _ _ _ (z 0) (z 13) (z 10) (z 7)) (unmixed_octet _ _ _ _ (z 13) (z 10) (z 7) (z 0)) (unmixed_octet _ _ _ _ (z 10) (z 7) (z 0) (z 13)) (unmixed_octet _ _ _ _ (z 7) (z 0) (z 13) (z 10)) (h 0) (h 1) (h 2) (h 3)
    ∙ ap (λ (l : List ℕ). xor_octets l (mix_column (get_or k 0 0) (get_or k 1 0) (get_or k 2 0) (get_or k 3 0))) (mix-unmixed _ _ _ _ (z 0) (z 13) (z 10) (z 7)))
    (mix_column-xor _ _ _ _ _ _ _ _ (unmixed_octet _ _ _ _ (z 4) (z 1) (z 14) (z 11)) (unmixed_octet _ _ _ _ (z 1) (z 14) (z 11) (z 4)) (unmixed_octet _ _ _ _ (z 14) (z 11) (z 4) (z 1)) (unmixed_octet _ _ _ _ (z 11) (z 4) (z 1) (z 14)) (h 4) (h 5) (h 6) (h 7)
    ∙ ap (λ (l : List ℕ). xor_octets l (mix_column (get_or k 4 0) (get_or k 5 0) (get_or k 6 0) (get_or k 7 0))) (mix-unmixed _ _ _ _ (z 4) (z 1) (z 14) (z 11)))
    (mix_column-xor _ _ _ _ _ _ _ _ (unmixed_octet _ _ _ _ (z 8) (z 5) (z 2) (z 15)) (unmixed_octet _ _ _ _ (z 5) (z 2) (z 15) (z 8)) (unmixed_octet _ _ _ _ (z 2) (z 15) (z 8) (z 5)) (unmixed_octet _ _ _ _ (z 15) (z 8) (z 5) (z 2)) (h 8) (h 9) (h 10) (h 11)
    ∙ ap (λ (l : List ℕ). xor_octets l (mix_column (get_or k 8 0) (get_or k 9 0) (get_or k 10 0) (get_or k 11 0))) (mix-unmixed _ _ _ _ (z 8) (z 5) (z 2) (z 15)))
    (mix_column-xor _ _ _ _ _ _ _ _ (unmixed_octet _ _ _ _ (z 12) (z 9) (z 6) (z 3)) (unmixed_octet _ _ _ _ (z 9) (z 6) (z 3) (z 12)) (unmixed_octet _ _ _ _ (z 6) (z 3) (z 12) (z 9)) (unmixed_octet _ _ _ _ (z 3) (z 12) (z 9) (z 6)) (h 12) (h 13) (h 14) (h 15)
    ∙ ap (λ (l : List ℕ). xor_octets l (mix_column (get_or k 12 0) (get_or k 13 0) (get_or k 14 0) (get_or k 15 0))) (mix-unmixed _ _ _ _ (z 12) (z 9) (z 6) (z 3)))

-- SubBytes and ShiftRows map the octets of `before` to the octets that the lanes represent
pub shifted_before : (v : List ℕ) → ((i : ℕ) → get_or v i 0 < 256) → map affine_back (shifted (before v)) ≡ read v
unfolding shifted
shifted_before v f =
    cons_same (affine_back-sub-inverted (get_or v 0 0) (f 0))
    (cons_same (affine_back-sub-inverted (get_or v 1 0) (f 1))
    (cons_same (affine_back-sub-inverted (get_or v 2 0) (f 2))
    (cons_same (affine_back-sub-inverted (get_or v 3 0) (f 3))
    (cons_same (affine_back-sub-inverted (get_or v 4 0) (f 4))
    (cons_same (affine_back-sub-inverted (get_or v 5 0) (f 5))
    (cons_same (affine_back-sub-inverted (get_or v 6 0) (f 6))
    (cons_same (affine_back-sub-inverted (get_or v 7 0) (f 7))
    (cons_same (affine_back-sub-inverted (get_or v 8 0) (f 8))
    (cons_same (affine_back-sub-inverted (get_or v 9 0) (f 9))
    (cons_same (affine_back-sub-inverted (get_or v 10 0) (f 10))
    (cons_same (affine_back-sub-inverted (get_or v 11 0) (f 11))
    (cons_same (affine_back-sub-inverted (get_or v 12 0) (f 12))
    (cons_same (affine_back-sub-inverted (get_or v 13 0) (f 13))
    (cons_same (affine_back-sub-inverted (get_or v 14 0) (f 14))
    (cons_same (affine_back-sub-inverted (get_or v 15 0) (f 15))
    (refl))))))))))))))))

-- the round is undone if the octets before its MixColumns are those of `returned`
pub round_undone : (v s k : List ℕ) → IsVector v → IsBlock s → IsBlock k → map affine_back (shifted s) ≡ map affine_back (returned v k)
    → map affine_back (shifted (full_round s (mix_columns k))) ≡ v
unfolding full_round shifted
round_undone v s k fits bs bk held =
    let f = λ (i : ℕ). lane_fits v i fits.1 in
    let h = λ (i : ℕ). bk.octets.below i in
    let ev : read v ≡ v = read_all v 16 fits.0 in
    let ec : read k ≡ k = read_all k 16 bk.size in
    let block = IsBlock-shift_rows (map sub s) (IsBlock-map_sub s bs) in
    let same : shifted s ≡ returned v k =
    affine_back_injective_list (shifted s) (returned v k) (λ i. block.octets.below i) (below_at (returned v k) (returned_below v k f h)) held (block.size ∙ refl) in
    let mixed : mix_columns k ≡ mix_columns (read k) = ap mix_columns (sym ec) in
    let undone : full_round s (mix_columns k) ≡ before v =
    ap₂ (λ (a b : List ℕ). xor_octets (mix_columns a) b) same mixed
    ∙ ap (λ (l : List ℕ). xor_octets l (mix_columns (read k))) (mix-returned v k f h)
    ∙ xor_octets_twice (before v) (mix_columns (read k)) refl in
    ap (λ (l : List ℕ). map affine_back (shifted l)) undone ∙ shifted_before v f ∙ ev

pub back_round : (v moved nine thirteen eleven fourteen key s k : List ℕ) → IsVector v → IsBlock s → IsBlock k → moved ≡ unshifted v
    → nine ≡ map (pair_sum NINE_U NINE_T) moved → thirteen ≡ map (pair_sum THIRTEEN_U THIRTEEN_T) moved
    → eleven ≡ map (pair_sum ELEVEN_U ELEVEN_T) moved → fourteen ≡ map (pair_sum FOURTEEN_U FOURTEEN_T) moved
    → key ≡ turned (map affine_back k) → map affine_back (shifted s) ≡ back_lanes nine thirteen eleven fourteen key
    → map affine_back (shifted (full_round s (mix_columns k))) ≡ v
back_round v moved nine thirteen eleven fourteen key s k fits bs bk em e9 e13 e11 e14 ek held =
    let f = λ (i : ℕ). lane_fits v i fits.1 in
    let h = λ (i : ℕ). bk.octets.below i in
    let ev : read v ≡ v = read_all v 16 fits.0 in
    let ec : read k ≡ k = read_all k 16 bk.size in
    let table = λ (g g' : ℕ → ℕ) (agrees : (x : ℕ) → x < 256 → g x ≡ g' x) (r : List ℕ) (e : r ≡ map g moved). e ∙ ap (map g) (em ∙ ap unshifted (sym ev)) ∙ same_map g g' agrees (moved_list v) (below_at (moved_list v) (moved_below v f)) in
    let lanes : back_lanes nine thirteen eleven fourteen key ≡ map affine_back (returned v k) =
    ap (λ (l : List ℕ). back_lanes l thirteen eleven fourteen key) (table _ _ nine_is nine e9)
    ∙ ap (λ (l : List ℕ). back_lanes (map (λ x. linear_back (product 9 (inverted x))) (moved_list v)) l eleven fourteen key) (table _ _ thirteen_is thirteen e13)
    ∙ ap (λ (l : List ℕ). back_lanes (map (λ x. linear_back (product 9 (inverted x))) (moved_list v)) (map (λ x. linear_back (product 13 (inverted x))) (moved_list v)) l fourteen key) (table _ _ eleven_is eleven e11)
    ∙ ap (λ (l : List ℕ). back_lanes (map (λ x. linear_back (product 9 (inverted x))) (moved_list v)) (map (λ x. linear_back (product 13 (inverted x))) (moved_list v)) (map (λ x. linear_back (product 11 (inverted x))) (moved_list v)) l key) (table _ _ fourteen_is fourteen e14)
    ∙ ap (λ (l : List ℕ). back_lanes (map (λ x. linear_back (product 9 (inverted x))) (moved_list v)) (map (λ x. linear_back (product 13 (inverted x))) (moved_list v)) (map (λ x. linear_back (product 11 (inverted x))) (moved_list v)) (map (λ x. linear_back (product 14 (inverted x))) (moved_list v)) l) (ek ∙ ap (λ (l : List ℕ). turned (map affine_back l)) (sym ec))
    ∙ lanes_back v k f h in
    round_undone v s k fits bs bk (held ∙ lanes)

pub open_round : (v plain key s k : List ℕ) → IsVector v → IsBlock k → plain ≡ map (pair_sum INVERTED_U INVERTED_T) v
    → key ≡ k → s ≡ xor_octets (open_lanes plain key) k → map affine_back (shifted s) ≡ v
unfolding inverted
open_round v plain key s k fits bk eo ek es =
    let f = λ (i : ℕ). lane_fits v i fits.1 in
    let ev : read v ≡ v = read_all v 16 fits.0 in
    let ec : read k ≡ k = read_all k 16 bk.size in
    let at : s ≡ before v =
    es ∙ ap (λ (l : List ℕ). xor_octets (open_lanes l key) k) (eo ∙ ap (map inverted) (sym ev))
    ∙ ap (λ (l : List ℕ). xor_octets (open_lanes (map inverted (read v)) l) k) (ek ∙ sym ec)
    ∙ ap (λ (l : List ℕ). xor_octets (open_lanes (map inverted (read v)) (read k)) l) (sym ec)
    ∙ xor_octets_twice (before v) (read k) refl in
    ap (λ (l : List ℕ). map affine_back (shifted l)) at ∙ shifted_before v f ∙ ev

inverted_lanes_below : (v k : List ℕ) → ((i : ℕ) → get_or v i 0 < 256) → ((i : ℕ) → get_or k i 0 < 256)
    → Each1 (λ x. x < 256) (open_lanes (map inverted (read v)) (read k))
inverted_lanes_below v k f h =
    let z = λ (i : ℕ). inverted_octet (get_or v i 0) (f i) in
    (xor_of_8 _ _ (z 0) (h 0), (xor_of_8 _ _ (z 13) (h 1), (xor_of_8 _ _ (z 10) (h 2), (xor_of_8 _ _ (z 7) (h 3), (xor_of_8 _ _ (z 4) (h 4), (xor_of_8 _ _ (z 1) (h 5), (xor_of_8 _ _ (z 14) (h 6), (xor_of_8 _ _ (z 11) (h 7), (xor_of_8 _ _ (z 8) (h 8), (xor_of_8 _ _ (z 5) (h 9), (xor_of_8 _ _ (z 2) (h 10), (xor_of_8 _ _ (z 15) (h 11), (xor_of_8 _ _ (z 12) (h 12), (xor_of_8 _ _ (z 9) (h 13), (xor_of_8 _ _ (z 6) (h 14), (xor_of_8 _ _ (z 3) (h 15), tt))))))))))))))))

pub open_block : (v plain key : List ℕ) → IsVector v → IsVector key → plain ≡ map (pair_sum INVERTED_U INVERTED_T) v → IsBlock (open_lanes plain key)
unfolding inverted
open_block v plain key fits fits_k eo =
    let e : open_lanes plain key ≡ open_lanes (map inverted (read v)) (read key) =
    ap (λ (l : List ℕ). open_lanes l key) (eo ∙ ap (map inverted) (sym (read_all v 16 fits.0)))
    ∙ ap (λ (l : List ℕ). open_lanes (map inverted (read v)) l) (sym (read_all key 16 fits_k.0)) in
    rw e record { size = refl; octets = record { below = below_at (open_lanes (map inverted (read v)) (read key)) (inverted_lanes_below v key (λ i. lane_fits v i fits.1) (λ i. lane_fits key i fits_k.1)) } }

back_lanes_below : (v k : List ℕ) → ((i : ℕ) → get_or v i 0 < 256) → ((i : ℕ) → get_or k i 0 < 256)
    → Each1 (λ x. x < 256)
    (back_lanes (map (λ x. linear_back (product 9 (inverted x))) (moved_list v)) (map (λ x. linear_back (product 13 (inverted x))) (moved_list v)) (map (λ x. linear_back (product 11 (inverted x))) (moved_list v))
    (map (λ x. linear_back (product 14 (inverted x))) (moved_list v)) (read k))
back_lanes_below v k f h =
    let z = λ (i : ℕ). inverted_octet (get_or v i 0) (f i) in
    let u = linear_back_octet in
    let lane = λ (i j k l m : ℕ). xor_of_8 _ _ (xor_of_8 _ _ (xor_of_8 _ _ (xor_of_8 _ _ (u _ (nine_octet _ (z i))) (h j)) (u _ (thirteen_octet _ (z k)))) (u _ (eleven_octet _ (z l))))
    (u _ (fourteen_octet _ (z m))) in
    (lane 7 3 10 13 0, (lane 0 0 7 10 13, (lane 13 1 0 7 10, (lane 10 2 13 0 7, (lane 11 7 14 1 4, (lane 4 4 11 14 1, (lane 1 5 4 11 14, (lane 14 6 1 4 11, (lane 15 11 2 5 8, (lane 8 8 15 2 5, (lane 5 9 8 15 2, (lane 2 10 5 8 15, (lane 3 15 6 9 12, (lane 12 12 3 6 9, (lane 9 13 12 3 6, (lane 6 14 9 12 3, tt))))))))))))))))

pub back_block : (v moved nine thirteen eleven fourteen key : List ℕ) → IsVector v → IsVector key → moved ≡ unshifted v
    → nine ≡ map (pair_sum NINE_U NINE_T) moved → thirteen ≡ map (pair_sum THIRTEEN_U THIRTEEN_T) moved
    → eleven ≡ map (pair_sum ELEVEN_U ELEVEN_T) moved → fourteen ≡ map (pair_sum FOURTEEN_U FOURTEEN_T) moved
    → IsBlock (back_lanes nine thirteen eleven fourteen key)
back_block v moved nine thirteen eleven fourteen key fits fits_k em e9 e13 e11 e14 =
    let f = λ (i : ℕ). lane_fits v i fits.1 in
    let ev : read v ≡ v = read_all v 16 fits.0 in
    let ec : read key ≡ key = read_all key 16 fits_k.0 in
    let table = λ (g g' : ℕ → ℕ) (agrees : (x : ℕ) → x < 256 → g x ≡ g' x) (r : List ℕ) (e : r ≡ map g moved). e ∙ ap (map g) (em ∙ ap unshifted (sym ev)) ∙ same_map g g' agrees (moved_list v) (below_at (moved_list v) (moved_below v f)) in
    let nine' : List ℕ = map (λ x. linear_back (product 9 (inverted x))) (moved_list v) in
    let thirteen' : List ℕ = map (λ x. linear_back (product 13 (inverted x))) (moved_list v) in
    let eleven' : List ℕ = map (λ x. linear_back (product 11 (inverted x))) (moved_list v) in
    let fourteen' : List ℕ = map (λ x. linear_back (product 14 (inverted x))) (moved_list v) in
    let e : back_lanes nine thirteen eleven fourteen key ≡ back_lanes nine' thirteen' eleven' fourteen' (read key) =
    ap (λ (l : List ℕ). back_lanes l thirteen eleven fourteen key) (table _ _ nine_is nine e9)
    ∙ ap (λ (l : List ℕ). back_lanes nine' l eleven fourteen key) (table _ _ thirteen_is thirteen e13)
    ∙ ap (λ (l : List ℕ). back_lanes nine' thirteen' l fourteen key) (table _ _ eleven_is eleven e11)
    ∙ ap (λ (l : List ℕ). back_lanes nine' thirteen' eleven' l key) (table _ _ fourteen_is fourteen e14)
    ∙ ap (λ (l : List ℕ). back_lanes nine' thirteen' eleven' fourteen' l) (sym ec) in
    subst IsBlock (sym e)
    record { size = refl; octets = record { below = below_at (back_lanes nine' thirteen' eleven' fourteen' (read key)) (back_lanes_below v key f (λ i. lane_fits key i fits_k.1)) } }
