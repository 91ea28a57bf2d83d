-- A round on the lanes of a vector, in the tower, is the round of AES.
use Rattle.std.proofs.Common.{◌≡◌, ℕ, zero, suc, ◌<◌, ltb, T, List, [], ◌∷◌, ◌++◌, map, get_or, replicate, slice_index, bit_xor, refl, sym, ap, ap₂, ◌∙◌, arith}
use lib.Lanes.{zip2, Each1, pick_l}
use Rattle.std.specs.List.{range_with_len}
use Rattle.std.proofs.Math.Facts.{ltb_yes}
use Rattle.std.proofs.lemmas.Nat.{xor_of_8}
use Rattle.krb_aes.specs.Field.{x_times, product_of_low, product, sub}
use Rattle.krb_aes.specs.Octets.{IsBlock}
use Rattle.krb_aes.specs.Round.{shifted, full_round, last_round}
use Rattle.krb_aes.proofs.FieldLemmas.{agree_at, agree_at_pair, product_2-xor, xor_twice}
use Rattle.krb_aes.proofs.RoundLemmas.{cons_same, read_all}
use Rattle.krb_aes.specs.Tower.{sum_of_bits, tower, tower_key, plain_key}
use Rattle.std.proofs.lemmas.List.{length-map}
use Rattle.std.proofs.lemmas.Simd.{zip2_splat, map-map}
use Rattle.krb_aes.proofs.EachOctet.{all_below, every_below, same_map}
use Rattle.krb_aes.proofs.LookUps.{IsVector, lane_fits}
use Rattle.krb_aes.proofs.Sums.{Sum, value, same_sum}
use Rattle.krb_aes.proofs.ForwardEntries.{bare}
use Rattle.krb_aes.proofs.SubBytesEntries.{sub_below}

-- ---- the tower keeps sums

tower_sums : map (λ a. map (λ b. tower (bit_xor a b)) (range_with_len 0 256)) (range_with_len 0 256)
    ≡ map (λ a. map (λ b. bit_xor (tower a) (tower b)) (range_with_len 0 256)) (range_with_len 0 256)
unfolding sum_of_bits tower
tower_sums = refl

pub tower-xor : (a b : ℕ) → a < 256 → b < 256 → tower (bit_xor a b) ≡ bit_xor (tower a) (tower b)
tower-xor a b ha hb = agree_at_pair (λ x y. tower (bit_xor x y)) (λ x y. bit_xor (tower x) (tower y)) a b tower_sums ha hb

doubles_below : T (all_below (λ a. ltb (product 2 a) 256) 256)
unfolding x_times product_of_low product
doubles_below = tt

pub double_below : (a : ℕ) → a < 256 → product 2 a < 256
double_below a h = ltb_yes (every_below (λ a. ltb (product 2 a) 256) 256 doubles_below a h)

triples : map (product 3) (range_with_len 0 256) ≡ map (λ b. bit_xor (product 2 b) b) (range_with_len 0 256)
unfolding x_times product_of_low product
triples = refl

pub triple_is : (a : ℕ) → a < 256 → product 3 a ≡ bit_xor (product 2 a) a
triple_is a h = agree_at (product 3) (λ b. bit_xor (product 2 b) b) a triples h

-- ---- one lane

below_at : (env : List ℕ) → Each1 (λ x. x < 256) env → (i : ℕ) → get_or env i 0 < 256
below_at [] h i = omega arith
below_at (x ∷ xs) h zero = h.0
below_at (x ∷ xs) h (suc i) = below_at xs h.1 i

value_below : (env : List ℕ) → Each1 (λ x. x < 256) env → (e : Sum) → value env e < 256
value_below env h (Sum.term i) = below_at env h i
value_below env h (Sum.plus a b) = xor_of_8 (value env a) (value env b) (value_below env h a) (value_below env h b)

-- what the sums of a lane are made of
abbrev terms : ℕ → ℕ → ℕ → ℕ → ℕ → List ℕ
terms p q r t k =
    product 2 (sub p) ∷ product 2 (sub q) ∷ sub q ∷ sub r ∷ sub t ∷ k ∷ 0x63 ∷ product 2 0x63 ∷ []

terms_below : (p q r t k : ℕ) → p < 256 → q < 256 → r < 256 → t < 256 → k < 256 → Each1 (λ x. x < 256) (terms p q r t k)
terms_below p q r t k hp hq hr ht hk =
    (double_below (sub p) (sub_below p hp), (double_below (sub q) (sub_below q hq), (sub_below q hq, (sub_below r hr, (sub_below t ht, (hk, (omega arith, (double_below 0x63 (omega arith), tt))))))))

abbrev double_q : Sum
double_q = Sum.plus (Sum.term 1) (Sum.term 7)

abbrev double_p : Sum
double_p = Sum.plus (Sum.term 0) (Sum.term 7)

abbrev once_q : Sum
once_q = Sum.plus (Sum.term 2) (Sum.term 6)

abbrev once_r : Sum
once_r = Sum.plus (Sum.term 3) (Sum.term 6)

abbrev once_t : Sum
once_t = Sum.plus (Sum.term 4) (Sum.term 6)

abbrev key : Sum
key = Sum.plus (Sum.term 5) (Sum.term 6)

abbrev computed : Sum
computed = Sum.plus (Sum.plus double_q once_r) (Sum.plus (Sum.plus double_p once_q) (Sum.plus once_t key))

-- a lane as it is computed: its own octet is p, and q, r and t are those below it in its column
abbrev pub lane : ℕ → ℕ → ℕ → ℕ → ℕ → ℕ
lane p q r t k =
    bit_xor (bit_xor (tower (product 2 (bare q))) (tower (bare r)))
    (bit_xor (bit_xor (tower (product 2 (bare p))) (tower (bare q))) (bit_xor (tower (bare t)) (tower_key k)))

lane_is : (p q r t k : ℕ) → p < 256 → q < 256 → r < 256 → t < 256 → k < 256 → lane p q r t k ≡ tower (value (terms p q r t k) computed)
unfolding tower_key
lane_is p q r t k hp hq hr ht hk =
    let env : List ℕ = terms p q r t k in
    let small = terms_below p q r t k hp hq hr ht hk in
    let join = λ (e f : Sum). sym (tower-xor (value env e) (value env f) (value_below env small e) (value_below env small f)) in
    let two = λ (x : ℕ) (h : x < 256). ap tower (product_2-xor (sub x) 0x63 (sub_below x h) (omega arith)) in
    ap₂ bit_xor
    (ap (λ (n : ℕ). bit_xor n (tower (bare r))) (two q hq) ∙ join double_q once_r)
    (ap₂ bit_xor (ap (λ (n : ℕ). bit_xor n (tower (bare q))) (two p hp) ∙ join double_p once_q) (join once_t key)
    ∙ join (Sum.plus double_p once_q) (Sum.plus once_t key))
    ∙ join (Sum.plus double_q once_r) (Sum.plus (Sum.plus double_p once_q) (Sum.plus once_t key))

pub first_lane : (p q r t k : ℕ) → p < 256 → q < 256 → r < 256 → t < 256 → k < 256
    → lane p q r t k ≡ tower (bit_xor (bit_xor (bit_xor (bit_xor (product 2 (sub p)) (product 3 (sub q))) (sub r)) (sub t)) k)
first_lane p q r t k hp hq hr ht hk =
    lane_is p q r t k hp hq hr ht hk
    ∙ ap tower
    (same_sum (terms p q r t k) computed (Sum.plus (Sum.plus (Sum.plus (Sum.plus (Sum.term 0) (Sum.plus (Sum.term 1) (Sum.term 2))) (Sum.term 3)) (Sum.term 4)) (Sum.term 5)) refl
    ∙ ap (λ (n : ℕ). bit_xor (bit_xor (bit_xor (bit_xor (product 2 (sub p)) (n)) (sub r)) (sub t)) k) (sym (triple_is (sub q) (sub_below q hq))))

pub second_lane : (p q r t k : ℕ) → p < 256 → q < 256 → r < 256 → t < 256 → k < 256
    → lane p q r t k ≡ tower (bit_xor (bit_xor (bit_xor (bit_xor (sub t) (product 2 (sub p))) (product 3 (sub q))) (sub r)) k)
second_lane p q r t k hp hq hr ht hk =
    lane_is p q r t k hp hq hr ht hk
    ∙ ap tower
    (same_sum (terms p q r t k) computed (Sum.plus (Sum.plus (Sum.plus (Sum.plus (Sum.term 4) (Sum.term 0)) (Sum.plus (Sum.term 1) (Sum.term 2))) (Sum.term 3)) (Sum.term 5)) refl
    ∙ ap (λ (n : ℕ). bit_xor (bit_xor (bit_xor (bit_xor (sub t) (product 2 (sub p))) (n)) (sub r)) k) (sym (triple_is (sub q) (sub_below q hq))))

pub third_lane : (p q r t k : ℕ) → p < 256 → q < 256 → r < 256 → t < 256 → k < 256
    → lane p q r t k ≡ tower (bit_xor (bit_xor (bit_xor (bit_xor (sub r) (sub t)) (product 2 (sub p))) (product 3 (sub q))) k)
third_lane p q r t k hp hq hr ht hk =
    lane_is p q r t k hp hq hr ht hk
    ∙ ap tower
    (same_sum (terms p q r t k) computed (Sum.plus (Sum.plus (Sum.plus (Sum.plus (Sum.term 3) (Sum.term 4)) (Sum.term 0)) (Sum.plus (Sum.term 1) (Sum.term 2))) (Sum.term 5)) refl
    ∙ ap (λ (n : ℕ). bit_xor (bit_xor (bit_xor (bit_xor (sub r) (sub t)) (product 2 (sub p))) (n)) k) (sym (triple_is (sub q) (sub_below q hq))))

pub fourth_lane : (p q r t k : ℕ) → p < 256 → q < 256 → r < 256 → t < 256 → k < 256
    → lane p q r t k ≡ tower (bit_xor (bit_xor (bit_xor (bit_xor (product 3 (sub q)) (sub r)) (sub t)) (product 2 (sub p))) k)
fourth_lane p q r t k hp hq hr ht hk =
    lane_is p q r t k hp hq hr ht hk
    ∙ ap tower
    (same_sum (terms p q r t k) computed (Sum.plus (Sum.plus (Sum.plus (Sum.plus (Sum.plus (Sum.term 1) (Sum.term 2)) (Sum.term 3)) (Sum.term 4)) (Sum.term 0)) (Sum.term 5)) refl
    ∙ ap (λ (n : ℕ). bit_xor (bit_xor (bit_xor (bit_xor (n) (sub r)) (sub t)) (product 2 (sub p))) k) (sym (triple_is (sub q) (sub_below q hq))))

-- the S-box's constant occurs twice in a lane of the last round
key_once : (x k : ℕ) → bit_xor (bare x) (bit_xor k 0x63) ≡ bit_xor (sub x) k
key_once x k =
    same_sum (sub x ∷ k ∷ 0x63 ∷ []) (Sum.plus (Sum.plus (Sum.term 0) (Sum.term 2)) (Sum.plus (Sum.term 1) (Sum.term 2))) (Sum.plus (Sum.term 0) (Sum.term 1)) refl

-- ---- the lanes

abbrev pub round_lanes : List ℕ → List ℕ → List ℕ → List ℕ
round_lanes once twice key =
    let t : List ℕ = zip2 bit_xor (pick_l 0 (twice ++ twice) (0 ∷ 5 ∷ 10 ∷ 15 ∷ 4 ∷ 9 ∷ 14 ∷ 3 ∷ 8 ∷ 13 ∷ 2 ∷ 7 ∷ 12 ∷ 1 ∷ 6 ∷ 11 ∷ [])) (pick_l 0 (once ++ once) (5 ∷ 10 ∷ 15 ∷ 0 ∷ 9 ∷ 14 ∷ 3 ∷ 4 ∷ 13 ∷ 2 ∷ 7 ∷ 8 ∷ 1 ∷ 6 ∷ 11 ∷ 12 ∷ [])) in
    zip2 bit_xor (pick_l 0 (t ++ t) (1 ∷ 2 ∷ 3 ∷ 0 ∷ 5 ∷ 6 ∷ 7 ∷ 4 ∷ 9 ∷ 10 ∷ 11 ∷ 8 ∷ 13 ∷ 14 ∷ 15 ∷ 12 ∷ []))
    (zip2 bit_xor t (zip2 bit_xor (pick_l 0 (once ++ once) (15 ∷ 0 ∷ 5 ∷ 10 ∷ 3 ∷ 4 ∷ 9 ∷ 14 ∷ 7 ∷ 8 ∷ 13 ∷ 2 ∷ 11 ∷ 12 ∷ 1 ∷ 6 ∷ [])) key))

abbrev pub last_lanes : List ℕ → List ℕ → List ℕ
last_lanes plain key = zip2 bit_xor (pick_l 0 (plain ++ plain) (0 ∷ 5 ∷ 10 ∷ 15 ∷ 4 ∷ 9 ∷ 14 ∷ 3 ∷ 8 ∷ 13 ∷ 2 ∷ 7 ∷ 12 ∷ 1 ∷ 6 ∷ 11 ∷ [])) key

abbrev read : List ℕ → List ℕ
read s = map (slice_index s) (range_with_len 0 16)

pub full_round_lanes : (once twice key s k : List ℕ) → IsBlock s → IsBlock k
    → once ≡ map (λ x. tower (bare x)) s → twice ≡ map (λ x. tower (product 2 (bare x))) s → key ≡ map tower_key k
    → round_lanes once twice key ≡ map tower (full_round s k)
unfolding full_round shifted
full_round_lanes once twice key s k bs bk eo et ek =
    let es : read s ≡ s = read_all s 16 bs.size in
    let ec : read k ≡ k = read_all k 16 bk.size in
    let o = λ (i : ℕ). bs.octets.below i in
    let h = λ (i : ℕ). bk.octets.below i in
    ap (λ (l : List ℕ). round_lanes l twice key) (eo ∙ ap (map (λ x. tower (bare x))) (sym es))
    ∙ ap (λ (l : List ℕ). round_lanes (map (λ x. tower (bare x)) (read s)) l key) (et ∙ ap (map (λ x. tower (product 2 (bare x)))) (sym es))
    ∙ ap (λ (l : List ℕ). round_lanes (map (λ x. tower (bare x)) (read s)) (map (λ x. tower (product 2 (bare x))) (read s)) l) (ek ∙ ap (map tower_key) (sym ec))
    ∙ cons_same (first_lane _ _ _ _ _ (o 0) (o 5) (o 10) (o 15) (h 0))
    (cons_same (second_lane _ _ _ _ _ (o 5) (o 10) (o 15) (o 0) (h 1))
    (cons_same (third_lane _ _ _ _ _ (o 10) (o 15) (o 0) (o 5) (h 2))
    (cons_same (fourth_lane _ _ _ _ _ (o 15) (o 0) (o 5) (o 10) (h 3))
    (cons_same (first_lane _ _ _ _ _ (o 4) (o 9) (o 14) (o 3) (h 4))
    (cons_same (second_lane _ _ _ _ _ (o 9) (o 14) (o 3) (o 4) (h 5))
    (cons_same (third_lane _ _ _ _ _ (o 14) (o 3) (o 4) (o 9) (h 6))
    (cons_same (fourth_lane _ _ _ _ _ (o 3) (o 4) (o 9) (o 14) (h 7))
    (cons_same (first_lane _ _ _ _ _ (o 8) (o 13) (o 2) (o 7) (h 8))
    (cons_same (second_lane _ _ _ _ _ (o 13) (o 2) (o 7) (o 8) (h 9))
    (cons_same (third_lane _ _ _ _ _ (o 2) (o 7) (o 8) (o 13) (h 10))
    (cons_same (fourth_lane _ _ _ _ _ (o 7) (o 8) (o 13) (o 2) (h 11))
    (cons_same (first_lane _ _ _ _ _ (o 12) (o 1) (o 6) (o 11) (h 12))
    (cons_same (second_lane _ _ _ _ _ (o 1) (o 6) (o 11) (o 12) (h 13))
    (cons_same (third_lane _ _ _ _ _ (o 6) (o 11) (o 12) (o 1) (h 14))
    (cons_same (fourth_lane _ _ _ _ _ (o 11) (o 12) (o 1) (o 6) (h 15))
    (refl))))))))))))))))
    ∙ ap₂ (λ (a b : List ℕ). map tower (full_round a b)) es ec

pub last_round_lanes : (plain key s k : List ℕ) → IsBlock s → IsBlock k
    → plain ≡ map bare s → key ≡ map plain_key k → last_lanes plain key ≡ last_round s k
unfolding last_round shifted plain_key
last_round_lanes plain key s k bs bk ep ek =
    let es : read s ≡ s = read_all s 16 bs.size in
    let ec : read k ≡ k = read_all k 16 bk.size in
    ap (λ (l : List ℕ). last_lanes l key) (ep ∙ ap (map bare) (sym es))
    ∙ ap (λ (l : List ℕ). last_lanes (map bare (read s)) l) (ek ∙ ap (map plain_key) (sym ec))
    ∙ cons_same (key_once _ _)
    (cons_same (key_once _ _)
    (cons_same (key_once _ _)
    (cons_same (key_once _ _)
    (cons_same (key_once _ _)
    (cons_same (key_once _ _)
    (cons_same (key_once _ _)
    (cons_same (key_once _ _)
    (cons_same (key_once _ _)
    (cons_same (key_once _ _)
    (cons_same (key_once _ _)
    (cons_same (key_once _ _)
    (cons_same (key_once _ _)
    (cons_same (key_once _ _)
    (cons_same (key_once _ _)
    (cons_same (key_once _ _)
    (refl))))))))))))))))
    ∙ ap₂ (λ (a b : List ℕ). last_round a b) es ec

pub substituted_is : (v plain : List ℕ) → IsVector v → plain ≡ map bare v → zip2 bit_xor plain (replicate 16 0x63) ≡ map sub v
substituted_is v plain fits e =
    ap (λ (l : List ℕ). zip2 bit_xor l (replicate 16 0x63)) e ∙ zip2_splat bit_xor (map bare v) 16 0x63 (length-map v bare ∙ fits.0)
    ∙ map-map (λ x. bit_xor x 0x63) bare v ∙ same_map (λ x. bit_xor (bare x) 0x63) sub (λ x h. xor_twice (sub x) 0x63) v (λ i. lane_fits v i fits.1)
