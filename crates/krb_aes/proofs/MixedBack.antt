-- A round back by MixColumns of x + 4 (x + x two rows up), on the lanes of a vector, in the tower.
use Rattle.std.proofs.Common.{◌≡◌, ℕ, ◌%◌, ◌/◌, ◌<◌, T, ltb, List, [], ◌∷◌, ◌++◌, map, length, get_or, bit_xor, refl, sym, ap, ap₂, ◌∙◌}
use lib.Lanes.{zip2, pick_l}
use Rattle.std.specs.List.{range_with_len}
use Rattle.std.proofs.Math.Facts.{ltb_yes}
use Rattle.std.proofs.lemmas.Nat.{xor_of_8}
use Rattle.std.proofs.lemmas.List.{length-map}
use Rattle.krb_aes.specs.Field.{x_times, product_of_low, product}
use Rattle.krb_aes.specs.Octets.{IsBlock}
use Rattle.krb_aes.specs.Round.{mix_columns, shifted, full_round}
use Rattle.krb_aes.specs.Tower.{entry, first_quotient, second_quotient, sum_at, pair_sum, sum_of_bits, tower, linear_back, affine_back, doubled_back, turned, unshifted}
use Rattle.krb_aes.specs.declared.tables.TheConstants.{BACK_U, BACK_T, BACK_FOUR_U, BACK_FOUR_T, BACK_DOUBLE_LOW, BACK_DOUBLE_HIGH}
use Rattle.krb_aes.proofs.EachOctet.{all_below, every_below, agree, same_octet, same_map}
use Rattle.krb_aes.proofs.FieldLemmas.{agree_at_pair}
use Rattle.krb_aes.proofs.InverseEntries.{inverted, inverted_octet, linear_back_octet, unmixed}
use Rattle.krb_aes.proofs.InverseRounds.{lane_back', below_at, moved_list, moved_below, read, returned, round_undone}
use Rattle.krb_aes.proofs.LookUps.{IsVector, lane_fits}
use Rattle.krb_aes.proofs.RoundLemmas.{cons_same, read_all}
use Rattle.krb_aes.proofs.Sums.{Sum, same_sum}

-- ---- what the tables give

back_agrees : agree (pair_sum BACK_U BACK_T) (λ x. linear_back (inverted x))
unfolding entry first_quotient second_quotient sum_at pair_sum sum_of_bits tower linear_back inverted
back_agrees = tt

back_is : (x : ℕ) → x < 256 → pair_sum BACK_U BACK_T x ≡ linear_back (inverted x)
back_is = same_octet (pair_sum BACK_U BACK_T) (λ x. linear_back (inverted x)) back_agrees

four_agrees : agree (pair_sum BACK_FOUR_U BACK_FOUR_T) (λ x. linear_back (product 4 (inverted x)))
unfolding x_times product_of_low product entry first_quotient second_quotient sum_at pair_sum sum_of_bits tower linear_back inverted
four_agrees = tt

four_is : (x : ℕ) → x < 256 → pair_sum BACK_FOUR_U BACK_FOUR_T x ≡ linear_back (product 4 (inverted x))
four_is = same_octet (pair_sum BACK_FOUR_U BACK_FOUR_T) (λ x. linear_back (product 4 (inverted x))) four_agrees

-- an octet times 2, as the tables of its halves have it
abbrev pub twice_entry : ℕ → ℕ
twice_entry x = bit_xor (entry BACK_DOUBLE_LOW (x % 16)) (entry BACK_DOUBLE_HIGH (x / 16))

pub twice_entry_agrees : agree twice_entry doubled_back
unfolding entry sum_of_bits doubled_back
twice_entry_agrees = tt

twice_entry_is : (x : ℕ) → x < 256 → twice_entry x ≡ doubled_back x
twice_entry_is = same_octet twice_entry doubled_back twice_entry_agrees

twice_sums : map (λ a. map (λ b. twice_entry (bit_xor a b)) (range_with_len 0 256)) (range_with_len 0 256)
    ≡ map (λ a. map (λ b. bit_xor (twice_entry a) (twice_entry b)) (range_with_len 0 256)) (range_with_len 0 256)
unfolding entry
twice_sums = refl

doubled_back-xor : (a b : ℕ) → a < 256 → b < 256 → doubled_back (bit_xor a b) ≡ bit_xor (doubled_back a) (doubled_back b)
doubled_back-xor a b ha hb =
    sym (twice_entry_is (bit_xor a b) (xor_of_8 a b ha hb))
    ∙ agree_at_pair (λ x y. twice_entry (bit_xor x y)) (λ x y. bit_xor (twice_entry x) (twice_entry y)) a b twice_sums ha hb
    ∙ ap₂ bit_xor (twice_entry_is a ha) (twice_entry_is b hb)

-- the products of an octet, in the tower
abbrev times : ℕ → ℕ → ℕ
times n x = linear_back (product n x)

twice_one : agree (λ x. doubled_back (linear_back x)) (times 2)
unfolding x_times product_of_low product doubled_back sum_of_bits tower linear_back
twice_one = tt

twice_four : agree (λ x. doubled_back (times 4 x)) (times 8)
unfolding x_times product_of_low product doubled_back sum_of_bits tower linear_back
twice_four = tt

nine : agree (times 9) (λ x. bit_xor (linear_back x) (times 8 x))
unfolding x_times product_of_low product sum_of_bits tower linear_back
nine = tt

eleven : agree (times 11) (λ x. bit_xor (bit_xor (linear_back x) (times 2 x)) (times 8 x))
unfolding x_times product_of_low product sum_of_bits tower linear_back
eleven = tt

thirteen : agree (times 13) (λ x. bit_xor (bit_xor (linear_back x) (times 4 x)) (times 8 x))
unfolding x_times product_of_low product sum_of_bits tower linear_back
thirteen = tt

fourteen : agree (times 14) (λ x. bit_xor (bit_xor (times 2 x) (times 4 x)) (times 8 x))
unfolding x_times product_of_low product sum_of_bits tower linear_back
fourteen = tt

four_below : T (all_below (λ x. ltb (times 4 x) 256) 256)
unfolding x_times product_of_low product sum_of_bits tower linear_back
four_below = tt

four_octet : (x : ℕ) → x < 256 → times 4 x < 256
four_octet x h = ltb_yes (every_below (λ x. ltb (times 4 x) 256) 256 four_below x h)

-- ---- a lane

-- x + 4 (x + y)
abbrev with_four : ℕ → ℕ → ℕ
with_four x y = bit_xor (bit_xor (linear_back x) (times 4 x)) (times 4 y)

with_four_octet : (x y : ℕ) → x < 256 → y < 256 → with_four x y < 256
with_four_octet x y hx hy = xor_of_8 _ _ (xor_of_8 _ _ (linear_back_octet x hx) (four_octet x hx)) (four_octet y hy)

twice-with_four : (x y : ℕ) → x < 256 → y < 256 → doubled_back (with_four x y) ≡ bit_xor (bit_xor (times 2 x) (times 8 x)) (times 8 y)
twice-with_four x y hx hy =
    doubled_back-xor (bit_xor (linear_back x) (times 4 x)) (times 4 y) (xor_of_8 _ _ (linear_back_octet x hx) (four_octet x hx)) (four_octet y hy)
    ∙ ap₂ bit_xor
    (doubled_back-xor (linear_back x) (times 4 x) (linear_back_octet x hx) (four_octet x hx)
    ∙ ap₂ bit_xor (same_octet (λ x. doubled_back (linear_back x)) (times 2) twice_one x hx) (same_octet (λ x. doubled_back (times 4 x)) (times 8) twice_four x hx))
    (same_octet (λ x. doubled_back (times 4 x)) (times 8) twice_four y hy)

-- the sums, each term one of 16 products
products_same : (p1 p2 p4 p8 q1 q2 q4 q8 r1 r2 r4 r8 t1 t2 t4 t8 : ℕ)
    → bit_xor (bit_xor (bit_xor (bit_xor (bit_xor p2 p8) r8) (bit_xor (bit_xor q2 q8) t8)) (bit_xor (bit_xor p1 p4) r4))
    (bit_xor (bit_xor (bit_xor (bit_xor p1 p4) r4) (bit_xor (bit_xor q1 q4) t4)) (bit_xor (bit_xor (bit_xor r1 r4) p4) (bit_xor (bit_xor t1 t4) q4)))
    ≡ bit_xor (bit_xor (bit_xor (bit_xor t1 t8) (bit_xor (bit_xor r1 r4) r8)) (bit_xor (bit_xor q1 q2) q8)) (bit_xor (bit_xor p2 p4) p8)
products_same p1 p2 p4 p8 q1 q2 q4 q8 r1 r2 r4 r8 t1 t2 t4 t8 =
    let n = λ (i : ℕ). Sum.term i in
    let three = λ (a b c : Sum). Sum.plus (Sum.plus a b) c in
    same_sum (p1 ∷ p2 ∷ p4 ∷ p8 ∷ q1 ∷ q2 ∷ q4 ∷ q8 ∷ r1 ∷ r2 ∷ r4 ∷ r8 ∷ t1 ∷ t2 ∷ t4 ∷ t8 ∷ [])
    (Sum.plus (Sum.plus (Sum.plus (three (n 1) (n 3) (n 11)) (three (n 5) (n 7) (n 15))) (three (n 0) (n 2) (n 10)))
    (Sum.plus (Sum.plus (three (n 0) (n 2) (n 10)) (three (n 4) (n 6) (n 14))) (Sum.plus (three (n 8) (n 10) (n 2)) (three (n 12) (n 14) (n 6)))))
    (Sum.plus (three (Sum.plus (n 12) (n 15)) (three (n 8) (n 10) (n 11)) (three (n 4) (n 5) (n 7))) (three (n 1) (n 2) (n 3))) refl

lane_mixed : (p q r t : ℕ) → p < 256 → q < 256 → r < 256 → t < 256
    → bit_xor (bit_xor (doubled_back (bit_xor (with_four p r) (with_four q t))) (with_four p r))
    (bit_xor (bit_xor (with_four p r) (with_four q t)) (bit_xor (with_four r p) (with_four t q)))
    ≡ bit_xor (bit_xor (bit_xor (times 9 t) (times 13 r)) (times 11 q)) (times 14 p)
lane_mixed p q r t hp hq hr ht =
    ap (λ (n : ℕ). bit_xor (bit_xor n (with_four p r)) (bit_xor (bit_xor (with_four p r) (with_four q t)) (bit_xor (with_four r p) (with_four t q))))
    (doubled_back-xor (with_four p r) (with_four q t) (with_four_octet p r hp hr) (with_four_octet q t hq ht)
    ∙ ap₂ bit_xor (twice-with_four p r hp hr) (twice-with_four q t hq ht))
    ∙ products_same (linear_back p) (times 2 p) (times 4 p) (times 8 p) (linear_back q) (times 2 q) (times 4 q) (times 8 q)
    (linear_back r) (times 2 r) (times 4 r) (times 8 r) (linear_back t) (times 2 t) (times 4 t) (times 8 t)
    ∙ sym (ap₂ bit_xor (ap₂ bit_xor (ap₂ bit_xor (same_octet (times 9) (λ x. bit_xor (linear_back x) (times 8 x)) nine t ht)
    (same_octet (times 13) (λ x. bit_xor (bit_xor (linear_back x) (times 4 x)) (times 8 x)) thirteen r hr))
    (same_octet (times 11) (λ x. bit_xor (bit_xor (linear_back x) (times 2 x)) (times 8 x)) eleven q hq))
    (same_octet (times 14) (λ x. bit_xor (bit_xor (times 2 x) (times 4 x)) (times 8 x)) fourteen p hp))

lane_mixed_back : (p q r t k : ℕ) → p < 256 → q < 256 → r < 256 → t < 256 → k < 256
    → bit_xor (bit_xor (bit_xor (doubled_back (bit_xor (with_four p r) (with_four q t))) (with_four p r))
    (bit_xor (bit_xor (with_four p r) (with_four q t)) (bit_xor (with_four r p) (with_four t q)))) (affine_back k)
    ≡ affine_back (bit_xor (unmixed p q r t) k)
lane_mixed_back p q r t k hp hq hr ht hk =
    ap (λ (n : ℕ). bit_xor n (affine_back k)) (lane_mixed p q r t hp hq hr ht) ∙ lane_back' p q r t k hp hq hr ht hk

-- ---- the lanes

abbrev pub mixed_lanes : List ℕ → List ℕ → List ℕ → List ℕ
mixed_lanes one four key =
    let z : List ℕ = zip2 bit_xor (zip2 bit_xor one four) (turned (turned four)) in
    let u : List ℕ = zip2 bit_xor z (turned z) in
    zip2 bit_xor (zip2 bit_xor (zip2 bit_xor (map doubled_back u) z) (zip2 bit_xor u (turned (turned u)))) key

lanes_mixed : (v k : List ℕ) → ((i : ℕ) → get_or v i 0 < 256) → ((i : ℕ) → get_or k i 0 < 256)
    → mixed_lanes (map (λ x. linear_back (inverted x)) (moved_list v)) (map (λ x. linear_back (product 4 (inverted x))) (moved_list v)) (map affine_back (read k))
    ≡ map affine_back (returned v k)
lanes_mixed v k f h =
    let z = λ (i : ℕ). inverted_octet (get_or v i 0) (f i) in
    let g =
    λ (i j l m n : ℕ). lane_mixed_back (inverted (get_or v i 0)) (inverted (get_or v j 0)) (inverted (get_or v l 0)) (inverted (get_or v m 0)) (get_or k n 0) (z i) (z j) (z l) (z m) (h n) in
    cons_same (g 0 13 10 7 0) (cons_same (g 13 10 7 0 1) (cons_same (g 10 7 0 13 2) (cons_same (g 7 0 13 10 3)
    (cons_same (g 4 1 14 11 4) (cons_same (g 1 14 11 4 5) (cons_same (g 14 11 4 1 6) (cons_same (g 11 4 1 14 7)
    (cons_same (g 8 5 2 15 8) (cons_same (g 5 2 15 8 9) (cons_same (g 2 15 8 5 10) (cons_same (g 15 8 5 2 11)
    (cons_same (g 12 9 6 3 12) (cons_same (g 9 6 3 12 13) (cons_same (g 6 3 12 9 14) (cons_same (g 3 12 9 6 15) refl)))))))))))))))

-- four turns change nothing
turned_around : (x : List ℕ) → length x ≡ 16 → turned (turned (turned (turned x))) ≡ x
turned_around x e = ap (λ (l : List ℕ). turned (turned (turned (turned l)))) (sym (read_all x 16 e)) ∙ read_all x 16 e

turned_injective : (x y : List ℕ) → length x ≡ 16 → length y ≡ 16 → turned x ≡ turned y → x ≡ y
turned_injective x y ex ey e = sym (turned_around x ex) ∙ ap (λ (l : List ℕ). turned (turned (turned l))) e ∙ turned_around y ey

pub turned-turned_back : (x : List ℕ) → length x ≡ 16
    → turned (pick_l 0 (x ++ x) (3 ∷ 0 ∷ 1 ∷ 2 ∷ 7 ∷ 4 ∷ 5 ∷ 6 ∷ 11 ∷ 8 ∷ 9 ∷ 10 ∷ 15 ∷ 12 ∷ 13 ∷ 14 ∷ [])) ≡ x
turned-turned_back x e =
    ap (λ (l : List ℕ). turned (pick_l 0 (l ++ l) (3 ∷ 0 ∷ 1 ∷ 2 ∷ 7 ∷ 4 ∷ 5 ∷ 6 ∷ 11 ∷ 8 ∷ 9 ∷ 10 ∷ 15 ∷ 12 ∷ 13 ∷ 14 ∷ []))) (sym (read_all x 16 e)) ∙ read_all x 16 e

pub mixed_round : (v moved one four key s k : List ℕ) → IsVector v → length key ≡ 16 → IsBlock s → IsBlock k → moved ≡ unshifted v
    → one ≡ map (pair_sum BACK_U BACK_T) moved → four ≡ map (pair_sum BACK_FOUR_U BACK_FOUR_T) moved
    → turned key ≡ turned (map affine_back k) → map affine_back (shifted s) ≡ mixed_lanes one four key
    → map affine_back (shifted (full_round s (mix_columns k))) ≡ v
mixed_round v moved one four key s k fits size bs bk em e1 e4 ek held =
    let f = λ (i : ℕ). lane_fits v i fits.1 in
    let h = λ (i : ℕ). bk.octets.below i in
    let ev : read v ≡ v = read_all v 16 fits.0 in
    let ec : read k ≡ k = read_all k 16 bk.size in
    let plain : key ≡ map affine_back k = turned_injective key (map affine_back k) size (length-map k affine_back ∙ bk.size) ek in
    let table = λ (g g' : ℕ → ℕ) (agrees : (x : ℕ) → x < 256 → g x ≡ g' x) (r : List ℕ) (e : r ≡ map g moved). e ∙ ap (map g) (em ∙ ap unshifted (sym ev)) ∙ same_map g g' agrees (moved_list v) (below_at (moved_list v) (moved_below v f)) in
    let lanes : mixed_lanes one four key ≡ map affine_back (returned v k) =
    ap (λ (l : List ℕ). mixed_lanes l four key) (table _ _ back_is one e1)
    ∙ ap (λ (l : List ℕ). mixed_lanes (map (λ x. linear_back (inverted x)) (moved_list v)) l key) (table _ _ four_is four e4)
    ∙ ap (λ (l : List ℕ). mixed_lanes (map (λ x. linear_back (inverted x)) (moved_list v)) (map (λ x. linear_back (product 4 (inverted x))) (moved_list v)) l) (plain ∙ ap (map affine_back) (sym ec))
    ∙ lanes_mixed v k f h in
    round_undone v s k fits bs bk (held ∙ lanes)
