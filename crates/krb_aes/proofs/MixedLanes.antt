-- MixColumns on the lanes of a vector (FIPS 197, section 5.1.3).
use Rattle.std.proofs.Common.{◌≡◌, ℕ, ◌%◌, ◌/◌, ◌<◌, List, [], ◌∷◌, ◌++◌, map, get_or, slice_index, bit_xor, refl, sym, ap, ◌∙◌}
use lib.Lanes.{zip2, pick_l}
use Rattle.std.specs.List.{range_with_len}
use Rattle.krb_aes.specs.Field.{x_times, product_of_low, product}
use Rattle.krb_aes.specs.Round.{mix_columns}
use Rattle.krb_aes.specs.Tower.{entry, turned}
use Rattle.krb_aes.specs.declared.tables.TheConstants.{DOUBLE_LOW, DOUBLE_HIGH}
use Rattle.krb_aes.proofs.EachOctet.{agree}
use Rattle.krb_aes.proofs.ForwardRounds.{triple_is}
use Rattle.krb_aes.proofs.LookUps.{IsVector, lane_fits}
use Rattle.krb_aes.proofs.RoundLemmas.{cons_same, read_all}
use Rattle.krb_aes.proofs.Sums.{Sum, same_sum}

-- an octet times 2, as the tables of its halves have it
abbrev pub double_entry : ℕ → ℕ
double_entry x = bit_xor (entry DOUBLE_LOW (x % 16)) (entry DOUBLE_HIGH (x / 16))

pub double_entry_agrees : agree double_entry (product 2)
unfolding x_times product_of_low product entry
double_entry_agrees = tt

-- ---- one lane: its own octet is p, and q, r and t are those below it in its column

first_mixed : (p q r t : ℕ) → q < 256
    → bit_xor (bit_xor (bit_xor (product 2 p) (bit_xor (product 2 q) q)) r) t ≡ bit_xor (bit_xor (bit_xor (product 2 p) (product 3 q)) r) t
first_mixed p q r t h = ap (λ (n : ℕ). bit_xor (bit_xor (bit_xor (product 2 p) n) r) t) (sym (triple_is q h))

second_mixed : (p q r t : ℕ) → q < 256 → bit_xor (bit_xor (bit_xor (product 2 p) (bit_xor (product 2 q) q)) r) t ≡ bit_xor (bit_xor (bit_xor t (product 2 p)) (product 3 q)) r
second_mixed p q r t h =
    first_mixed p q r t h
    ∙ same_sum (product 2 p ∷ product 3 q ∷ r ∷ t ∷ []) (Sum.plus (Sum.plus (Sum.plus (Sum.term 0) (Sum.term 1)) (Sum.term 2)) (Sum.term 3))
    (Sum.plus (Sum.plus (Sum.plus (Sum.term 3) (Sum.term 0)) (Sum.term 1)) (Sum.term 2)) refl

third_mixed : (p q r t : ℕ) → q < 256 → bit_xor (bit_xor (bit_xor (product 2 p) (bit_xor (product 2 q) q)) r) t ≡ bit_xor (bit_xor (bit_xor r t) (product 2 p)) (product 3 q)
third_mixed p q r t h =
    first_mixed p q r t h
    ∙ same_sum (product 2 p ∷ product 3 q ∷ r ∷ t ∷ []) (Sum.plus (Sum.plus (Sum.plus (Sum.term 0) (Sum.term 1)) (Sum.term 2)) (Sum.term 3))
    (Sum.plus (Sum.plus (Sum.plus (Sum.term 2) (Sum.term 3)) (Sum.term 0)) (Sum.term 1)) refl

fourth_mixed : (p q r t : ℕ) → q < 256 → bit_xor (bit_xor (bit_xor (product 2 p) (bit_xor (product 2 q) q)) r) t ≡ bit_xor (bit_xor (bit_xor (product 3 q) r) t) (product 2 p)
fourth_mixed p q r t h =
    first_mixed p q r t h
    ∙ same_sum (product 2 p ∷ product 3 q ∷ r ∷ t ∷ []) (Sum.plus (Sum.plus (Sum.plus (Sum.term 0) (Sum.term 1)) (Sum.term 2)) (Sum.term 3))
    (Sum.plus (Sum.plus (Sum.plus (Sum.term 1) (Sum.term 2)) (Sum.term 3)) (Sum.term 0)) refl

-- ---- the lanes

abbrev pub mixed_lanes : List ℕ → List ℕ → List ℕ
mixed_lanes doubles v =
    zip2 bit_xor (zip2 bit_xor (zip2 bit_xor doubles (turned (zip2 bit_xor doubles v)))
    (pick_l 0 (v ++ v) (2 ∷ 3 ∷ 0 ∷ 1 ∷ 6 ∷ 7 ∷ 4 ∷ 5 ∷ 10 ∷ 11 ∷ 8 ∷ 9 ∷ 14 ∷ 15 ∷ 12 ∷ 13 ∷ [])))
    (pick_l 0 (v ++ v) (3 ∷ 0 ∷ 1 ∷ 2 ∷ 7 ∷ 4 ∷ 5 ∷ 6 ∷ 11 ∷ 8 ∷ 9 ∷ 10 ∷ 15 ∷ 12 ∷ 13 ∷ 14 ∷ []))

abbrev read : List ℕ → List ℕ
read s = map (slice_index s) (range_with_len 0 16)

pub mixed_lanes_is : (doubles v : List ℕ) → IsVector v → doubles ≡ map (product 2) v → mixed_lanes doubles v ≡ mix_columns v
mixed_lanes_is doubles v fits ed =
    let ev : read v ≡ v = read_all v 16 fits.0 in
    let o = λ (i : ℕ). lane_fits v i fits.1 in
    let x = λ (i : ℕ). get_or v i 0 in
    ap (λ (l : List ℕ). mixed_lanes l v) (ed ∙ ap (map (product 2)) (sym ev))
    ∙ ap (mixed_lanes (map (product 2) (read v))) (sym ev)
    ∙ cons_same (first_mixed (x 0) (x 1) (x 2) (x 3) (o 1))
    (cons_same (second_mixed (x 1) (x 2) (x 3) (x 0) (o 2))
    (cons_same (third_mixed (x 2) (x 3) (x 0) (x 1) (o 3))
    (cons_same (fourth_mixed (x 3) (x 0) (x 1) (x 2) (o 0))
    (cons_same (first_mixed (x 4) (x 5) (x 6) (x 7) (o 5))
    (cons_same (second_mixed (x 5) (x 6) (x 7) (x 4) (o 6))
    (cons_same (third_mixed (x 6) (x 7) (x 4) (x 5) (o 7))
    (cons_same (fourth_mixed (x 7) (x 4) (x 5) (x 6) (o 4))
    (cons_same (first_mixed (x 8) (x 9) (x 10) (x 11) (o 9))
    (cons_same (second_mixed (x 9) (x 10) (x 11) (x 8) (o 10))
    (cons_same (third_mixed (x 10) (x 11) (x 8) (x 9) (o 11))
    (cons_same (fourth_mixed (x 11) (x 8) (x 9) (x 10) (o 8))
    (cons_same (first_mixed (x 12) (x 13) (x 14) (x 15) (o 13))
    (cons_same (second_mixed (x 13) (x 14) (x 15) (x 12) (o 14))
    (cons_same (third_mixed (x 14) (x 15) (x 12) (x 13) (o 15))
    (cons_same (fourth_mixed (x 15) (x 12) (x 13) (x 14) (o 12))
    (refl))))))))))))))))
    ∙ ap mix_columns ev
