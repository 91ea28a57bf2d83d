-- Four blocks side by side: the vector operations lane by lane, and each block's own lanes.
use Rattle.std.proofs.Common.{◌≡◌, ℕ, zero, suc, ◌+◌, ◌*◌, ◌/◌, ◌%◌, ◌<◌, Bool, true, false, cond, subst, ◌||◌, T, ltb, List, [], ◌∷◌, ◌++◌, map, length, get_or, slice_index, replicate, take, drop, bit_and, bit_xor, refl, sym, ap, ap₂, ◌∙◌, arith, w8, Fits}
use lib.Lanes.{zip2, Each1, pick_l}
use mir.Val.{zeroes}
use Rattle.std.specs.List.{range_with_len}
use Rattle.std.proofs.lemmas.Simd.{Each1-weaker, Each1-zip2, Each2-splat, below_from_Fits, length-zip2, zip2_splat, pick_l_left, swz_l, SwzOk, SwzOk-from_Each1, length-swz_l, get_or-swz_l, length-chunk, Each1-chunk}
use Rattle.std.proofs.lemmas.List.{get_or-map, length-map, ext_get_or, get_or-take, get_or-drop, take-map, drop-map}
use Rattle.std.proofs.Math.Facts.{ltb_yes}
use Rattle.krb_aes.proofs.RoundLemmas.{read_all}
use Rattle.krb_aes.specs.Tower.{entry, doubled_back, turned, unshifted}
use Rattle.krb_aes.specs.Octets.{block_at}
use Rattle.krb_aes.proofs.EachOctet.{every_below, mapped_octets}
use Rattle.krb_aes.proofs.LookUps.{divided, is_place, masked_is, lane_fits}
use Rattle.krb_aes.proofs.InverseRounds.{open_lanes}
use Rattle.krb_aes.proofs.MixedBack.{mixed_lanes}

abbrev pub AreFour : List ℕ → Type 0
AreFour v = (length v ≡ 64) × Each1 (Fits w8) v

pub places_ok : (v : List ℕ) → AreFour v → SwzOk w8 16 64 0 (zip2 bit_and v (replicate 64 143))
places_ok v fits =
    let small = Each1-weaker (λ a. a < 256) (λ a. T (is_place (bit_and a 143))) (every_below (λ a. is_place (bit_and a 143)) 256 tt) v (below_from_Fits w8 v fits.1) in
    SwzOk-from_Each1 w8 16 4 64 0 (zip2 bit_and v (replicate 64 143)) refl (omega (arith, length-zip2 bit_and v (replicate 64 143) fits.0))
    (Each1-zip2 bit_and (λ j. T (is_place j)) v (replicate 64 143) (Each2-splat (λ a b. T (is_place (bit_and a b))) v 64 143 small))

-- four copies of a block
abbrev copies : List ℕ → List ℕ
copies block = pick_l 0 (block ++ block) (0 ∷ 1 ∷ 2 ∷ 3 ∷ 4 ∷ 5 ∷ 6 ∷ 7 ∷ 8 ∷ 9 ∷ 10 ∷ 11 ∷ 12 ∷ 13 ∷ 14 ∷ 15 ∷ 0 ∷ 1 ∷ 2 ∷ 3 ∷ 4 ∷ 5 ∷ 6 ∷ 7 ∷ 8 ∷ 9 ∷ 10 ∷ 11 ∷ 12 ∷ 13 ∷ 14 ∷ 15 ∷ 0 ∷ 1 ∷ 2 ∷ 3 ∷ 4 ∷ 5 ∷ 6 ∷ 7 ∷ 8 ∷ 9 ∷ 10 ∷ 11 ∷ 12 ∷ 13 ∷ 14 ∷ 15 ∷ 0 ∷ 1 ∷ 2 ∷ 3 ∷ 4 ∷ 5 ∷ 6 ∷ 7 ∷ 8 ∷ 9 ∷ 10 ∷ 11 ∷ 12 ∷ 13 ∷ 14 ∷ 15 ∷ [])

abbrev read_in : ℕ → List ℕ → List ℕ
read_in n s = map (slice_index s) (range_with_len 0 n)

copies_is : (block : List ℕ) → length block ≡ 16 → copies block ≡ read_in 16 block ++ read_in 16 block ++ read_in 16 block ++ read_in 16 block
copies_is block e = pick_l_left 0 block block 16 (0 ∷ 1 ∷ 2 ∷ 3 ∷ 4 ∷ 5 ∷ 6 ∷ 7 ∷ 8 ∷ 9 ∷ 10 ∷ 11 ∷ 12 ∷ 13 ∷ 14 ∷ 15 ∷ 0 ∷ 1 ∷ 2 ∷ 3 ∷ 4 ∷ 5 ∷ 6 ∷ 7 ∷ 8 ∷ 9 ∷ 10 ∷ 11 ∷ 12 ∷ 13 ∷ 14 ∷ 15 ∷ 0 ∷ 1 ∷ 2 ∷ 3 ∷ 4 ∷ 5 ∷ 6 ∷ 7 ∷ 8 ∷ 9 ∷ 10 ∷ 11 ∷ 12 ∷ 13 ∷ 14 ∷ 15 ∷ 0 ∷ 1 ∷ 2 ∷ 3 ∷ 4 ∷ 5 ∷ 6 ∷ 7 ∷ 8 ∷ 9 ∷ 10 ∷ 11 ∷ 12 ∷ 13 ∷ 14 ∷ 15 ∷ []) e tt

pub copies_at : (block : List ℕ) → length block ≡ 16 → (b : ℕ) → b < 4 → block_at b (copies block) ≡ block
copies_at block e zero h = ap (block_at 0) (copies_is block e) ∙ read_all block 16 e
copies_at block e (suc zero) h = ap (block_at 1) (copies_is block e) ∙ read_all block 16 e
copies_at block e (suc (suc zero)) h = ap (block_at 2) (copies_is block e) ∙ read_all block 16 e
copies_at block e (suc (suc (suc zero))) h = ap (block_at 3) (copies_is block e) ∙ read_all block 16 e
copies_at block e (suc (suc (suc (suc b)))) h = absurd (omega arith)

-- an entry of its own copy
in_copy : (table four : List ℕ) → length four ≡ 64 → ((b : ℕ) → b < 4 → block_at b four ≡ table) → (i j : ℕ) → i < 64 → j < 16
    → get_or four (16 * (i / 16) + j) 0 ≡ get_or table j 0
in_copy table four long same i j hi hj =
    sym (get_or-take 16 (drop (16 * (i / 16)) four) j 0 hj ∙ get_or-drop (16 * (i / 16)) four j 0)
    ∙ ap (λ (l : List ℕ). get_or l j 0) (same (i / 16) (omega arith))

-- where no lane is made 0, the place is below 16
masked_place : (a : ℕ) → a < 256 → zeroes 16 w8 (bit_and a 143) ≡ false → bit_and a 143 < 16
masked_place a h e = ltb_yes (subst (λ (b : Bool). T (b || ltb (bit_and a 143) 16)) e (every_below (λ a. is_place (bit_and a 143)) 256 tt a h))

masked_copy : (table four : List ℕ) → length four ≡ 64 → ((b : ℕ) → b < 4 → block_at b four ≡ table) → (i a : ℕ) → i < 64 → a < 256
    → cond (zeroes 16 w8 (bit_and a 143)) 0 (get_or four (16 * (i / 16) + bit_and a 143) 0) ≡ cond (zeroes 16 w8 (bit_and a 143)) 0 (get_or table (bit_and a 143) 0)
masked_copy table four long same i a hi ha = go (zeroes 16 w8 (bit_and a 143)) refl
  where
    go : (z : Bool) → zeroes 16 w8 (bit_and a 143) ≡ z → cond z 0 (get_or four (16 * (i / 16) + bit_and a 143) 0) ≡ cond z 0 (get_or table (bit_and a 143) 0)
    go true e = refl
    go false e = in_copy table four long same i (bit_and a 143) hi (masked_place a ha e)

pub looked_up : (table four v : List ℕ) → length four ≡ 64 → ((b : ℕ) → b < 4 → block_at b four ≡ table) → AreFour v
    → swz_l w8 16 four 0 (zip2 bit_and v (replicate 64 143)) ≡ map (entry table) v
looked_up table four v long same fits =
    let js : List ℕ = zip2 bit_and v (replicate 64 143) in
    let e : js ≡ map (λ a. bit_and a 143) v = zip2_splat bit_and v 64 143 fits.0 in
    let len : length js ≡ 64 = ap length e ∙ length-map v (λ a. bit_and a 143) ∙ fits.0 in
    ext_get_or 0 _ _ (length-swz_l w8 16 four 0 js ∙ len ∙ sym (length-map v (entry table) ∙ fits.0)) (λ i h.
    let lt : i < 64 = omega (arith, length-swz_l w8 16 four 0 js) in
    let within : i < length v = omega (arith, fits.0) in
    let start : 0 + i ≡ i = omega arith in
    let at : get_or js i 0 ≡ bit_and (get_or v i 0) 143 = ap (λ (l : List ℕ). get_or l i 0) e ∙ get_or-map (λ a. bit_and a 143) v i 0 0 within in
    get_or-swz_l w8 16 four 0 js i (omega arith)
    ∙ ap (λ (m : ℕ). cond (zeroes 16 w8 (get_or js i 0)) 0 (get_or four (16 * (m / 16) + get_or js i 0) 0)) start
    ∙ ap (λ (k : ℕ). cond (zeroes 16 w8 k) 0 (get_or four (16 * (i / 16) + k) 0)) at
    ∙ masked_copy table four long same i (get_or v i 0) lt (lane_fits v i fits.1)
    ∙ masked_is table (get_or v i 0) (lane_fits v i fits.1)
    ∙ sym (get_or-map (entry table) v i 0 0 within))

pub low_is : (v : List ℕ) → AreFour v → zip2 bit_and v (replicate 64 15) ≡ map (λ x. x % 16) v
low_is v fits = zip2_splat bit_and v 64 15 fits.0 ∙ mapped_octets (λ x. bit_and x 15) (λ x. x % 16) tt v fits.1

pub high_is : (v : List ℕ) → AreFour v → zip2 divided v (replicate 64 4) ≡ map (λ x. x / 16) v
high_is v fits = zip2_splat divided v 64 4 fits.0

-- ---- each block of a round

abbrev pub four_turned : List ℕ → List ℕ
four_turned v = pick_l 0 (v ++ v) (1 ∷ 2 ∷ 3 ∷ 0 ∷ 5 ∷ 6 ∷ 7 ∷ 4 ∷ 9 ∷ 10 ∷ 11 ∷ 8 ∷ 13 ∷ 14 ∷ 15 ∷ 12 ∷ 17 ∷ 18 ∷ 19 ∷ 16 ∷ 21 ∷ 22 ∷ 23 ∷ 20 ∷ 25 ∷ 26 ∷ 27 ∷ 24 ∷ 29 ∷ 30 ∷ 31 ∷ 28 ∷ 33 ∷ 34 ∷ 35 ∷ 32 ∷ 37 ∷ 38 ∷ 39 ∷ 36 ∷ 41 ∷ 42 ∷ 43 ∷ 40 ∷ 45 ∷ 46 ∷ 47 ∷ 44 ∷ 49 ∷ 50 ∷ 51 ∷ 48 ∷ 53 ∷ 54 ∷ 55 ∷ 52 ∷ 57 ∷ 58 ∷ 59 ∷ 56 ∷ 61 ∷ 62 ∷ 63 ∷ 60 ∷ [])

abbrev pub four_turned_twice : List ℕ → List ℕ
four_turned_twice v = pick_l 0 (v ++ v) (2 ∷ 3 ∷ 0 ∷ 1 ∷ 6 ∷ 7 ∷ 4 ∷ 5 ∷ 10 ∷ 11 ∷ 8 ∷ 9 ∷ 14 ∷ 15 ∷ 12 ∷ 13 ∷ 18 ∷ 19 ∷ 16 ∷ 17 ∷ 22 ∷ 23 ∷ 20 ∷ 21 ∷ 26 ∷ 27 ∷ 24 ∷ 25 ∷ 30 ∷ 31 ∷ 28 ∷ 29 ∷ 34 ∷ 35 ∷ 32 ∷ 33 ∷ 38 ∷ 39 ∷ 36 ∷ 37 ∷ 42 ∷ 43 ∷ 40 ∷ 41 ∷ 46 ∷ 47 ∷ 44 ∷ 45 ∷ 50 ∷ 51 ∷ 48 ∷ 49 ∷ 54 ∷ 55 ∷ 52 ∷ 53 ∷ 58 ∷ 59 ∷ 56 ∷ 57 ∷ 62 ∷ 63 ∷ 60 ∷ 61 ∷ [])

abbrev pub four_unshifted : List ℕ → List ℕ
four_unshifted v = pick_l 0 (v ++ v) (0 ∷ 13 ∷ 10 ∷ 7 ∷ 4 ∷ 1 ∷ 14 ∷ 11 ∷ 8 ∷ 5 ∷ 2 ∷ 15 ∷ 12 ∷ 9 ∷ 6 ∷ 3 ∷ 16 ∷ 29 ∷ 26 ∷ 23 ∷ 20 ∷ 17 ∷ 30 ∷ 27 ∷ 24 ∷ 21 ∷ 18 ∷ 31 ∷ 28 ∷ 25 ∷ 22 ∷ 19 ∷ 32 ∷ 45 ∷ 42 ∷ 39 ∷ 36 ∷ 33 ∷ 46 ∷ 43 ∷ 40 ∷ 37 ∷ 34 ∷ 47 ∷ 44 ∷ 41 ∷ 38 ∷ 35 ∷ 48 ∷ 61 ∷ 58 ∷ 55 ∷ 52 ∷ 49 ∷ 62 ∷ 59 ∷ 56 ∷ 53 ∷ 50 ∷ 63 ∷ 60 ∷ 57 ∷ 54 ∷ 51 ∷ [])

unshifted_read : (v : List ℕ) (b : ℕ) → b < 4 → block_at b (four_unshifted (read_in 64 v)) ≡ unshifted (block_at b (read_in 64 v))
unshifted_read v zero h = refl
unshifted_read v (suc zero) h = refl
unshifted_read v (suc (suc zero)) h = refl
unshifted_read v (suc (suc (suc zero))) h = refl
unshifted_read v (suc (suc (suc (suc b)))) h = absurd (omega arith)

pub unshifted_at : (v : List ℕ) (b : ℕ) → b < 4 → length v ≡ 64 → block_at b (four_unshifted v) ≡ unshifted (block_at b v)
unshifted_at v b h long =
    ap (λ (x : List ℕ). block_at b (four_unshifted x)) (sym (read_all v 64 long)) ∙ unshifted_read v b h
    ∙ ap (λ (x : List ℕ). unshifted (block_at b x)) (read_all v 64 long)

turned_read : (v : List ℕ) (b : ℕ) → b < 4 → block_at b (four_turned (read_in 64 v)) ≡ turned (block_at b (read_in 64 v))
turned_read v zero h = refl
turned_read v (suc zero) h = refl
turned_read v (suc (suc zero)) h = refl
turned_read v (suc (suc (suc zero))) h = refl
turned_read v (suc (suc (suc (suc b)))) h = absurd (omega arith)

pub turned_at : (v : List ℕ) (b : ℕ) → b < 4 → length v ≡ 64 → block_at b (four_turned v) ≡ turned (block_at b v)
turned_at v b h long =
    ap (λ (x : List ℕ). block_at b (four_turned x)) (sym (read_all v 64 long)) ∙ turned_read v b h
    ∙ ap (λ (x : List ℕ). turned (block_at b x)) (read_all v 64 long)

turned_twice_read : (v : List ℕ) (b : ℕ) → b < 4 → block_at b (four_turned_twice (read_in 64 v)) ≡ turned (turned (block_at b (read_in 64 v)))
turned_twice_read v zero h = refl
turned_twice_read v (suc zero) h = refl
turned_twice_read v (suc (suc zero)) h = refl
turned_twice_read v (suc (suc (suc zero))) h = refl
turned_twice_read v (suc (suc (suc (suc b)))) h = absurd (omega arith)

pub turned_twice_at : (v : List ℕ) (b : ℕ) → b < 4 → length v ≡ 64 → block_at b (four_turned_twice v) ≡ turned (turned (block_at b v))
turned_twice_at v b h long =
    ap (λ (x : List ℕ). block_at b (four_turned_twice x)) (sym (read_all v 64 long)) ∙ turned_twice_read v b h
    ∙ ap (λ (x : List ℕ). turned (turned (block_at b x))) (read_all v 64 long)

abbrev pub four_open : List ℕ → List ℕ → List ℕ
four_open plain key = zip2 bit_xor (pick_l 0 (plain ++ plain) (0 ∷ 13 ∷ 10 ∷ 7 ∷ 4 ∷ 1 ∷ 14 ∷ 11 ∷ 8 ∷ 5 ∷ 2 ∷ 15 ∷ 12 ∷ 9 ∷ 6 ∷ 3 ∷ 16 ∷ 29 ∷ 26 ∷ 23 ∷ 20 ∷ 17 ∷ 30 ∷ 27 ∷ 24 ∷ 21 ∷ 18 ∷ 31 ∷ 28 ∷ 25 ∷ 22 ∷ 19 ∷ 32 ∷ 45 ∷ 42 ∷ 39 ∷ 36 ∷ 33 ∷ 46 ∷ 43 ∷ 40 ∷ 37 ∷ 34 ∷ 47 ∷ 44 ∷ 41 ∷ 38 ∷ 35 ∷ 48 ∷ 61 ∷ 58 ∷ 55 ∷ 52 ∷ 49 ∷ 62 ∷ 59 ∷ 56 ∷ 53 ∷ 50 ∷ 63 ∷ 60 ∷ 57 ∷ 54 ∷ 51 ∷ [])) key

open_read : (n k : List ℕ) (b : ℕ) → b < 4
    → block_at b (four_open (read_in 64 n) (read_in 64 k)) ≡ open_lanes (block_at b (read_in 64 n)) (block_at b (read_in 64 k))
open_read n k zero h = refl
open_read n k (suc zero) h = refl
open_read n k (suc (suc zero)) h = refl
open_read n k (suc (suc (suc zero))) h = refl
open_read n k (suc (suc (suc (suc b)))) h = absurd (omega arith)

pub open_at : (n k : List ℕ) (b : ℕ) → b < 4 → length n ≡ 64 → length k ≡ 64
    → block_at b (four_open n k) ≡ open_lanes (block_at b n) (block_at b k)
open_at n k b h ln lk =
    ap₂ (λ (x y : List ℕ). block_at b (four_open x y)) (sym (read_all n 64 ln)) (sym (read_all k 64 lk))
    ∙ open_read n k b h
    ∙ ap₂ (λ (x y : List ℕ). open_lanes (block_at b x) (block_at b y)) (read_all n 64 ln) (read_all k 64 lk)

-- a block of a vector that was computed lane by lane
pub block-map : (f : ℕ → ℕ) (v r : List ℕ) (b : ℕ) → r ≡ map f v → block_at b r ≡ map f (block_at b v)
block-map f v r b e = ap (block_at b) e ∙ ap (take 16) (drop-map f (16 * b) v) ∙ take-map f 16 (drop (16 * b) v)

take-zip2 : (n : ℕ) (xs ys : List ℕ) → take n (zip2 bit_xor xs ys) ≡ zip2 bit_xor (take n xs) (take n ys)
take-zip2 zero xs ys = refl
take-zip2 (suc n) [] ys = refl
take-zip2 (suc n) (x ∷ xs) [] = refl
take-zip2 (suc n) (x ∷ xs) (y ∷ ys) = ap (λ (l : List ℕ). bit_xor x y ∷ l) (take-zip2 n xs ys)

zip2-none : (xs : List ℕ) → zip2 bit_xor xs [] ≡ []
zip2-none [] = refl
zip2-none (x ∷ xs) = refl

drop-zip2 : (n : ℕ) (xs ys : List ℕ) → drop n (zip2 bit_xor xs ys) ≡ zip2 bit_xor (drop n xs) (drop n ys)
drop-zip2 zero xs ys = refl
drop-zip2 (suc n) [] ys = refl
drop-zip2 (suc n) (x ∷ xs) [] = sym (zip2-none (drop n xs))
drop-zip2 (suc n) (x ∷ xs) (y ∷ ys) = drop-zip2 n xs ys

pub block-xor : (b : ℕ) (xs ys : List ℕ) → block_at b (zip2 bit_xor xs ys) ≡ zip2 bit_xor (block_at b xs) (block_at b ys)
block-xor b xs ys = ap (take 16) (drop-zip2 (16 * b) xs ys) ∙ take-zip2 16 (drop (16 * b) xs) (drop (16 * b) ys)

pub block_fits : (v : List ℕ) (b : ℕ) → b < 4 → AreFour v → (length (block_at b v) ≡ 16) × Each1 (Fits w8) (block_at b v)
block_fits v b h fits = (length-chunk (16 * b) 16 v (omega (arith, fits.0)), Each1-chunk (Fits w8) (16 * b) 16 v fits.1)

-- a block of a round back: the turns were of each block
pub mixed_at : (b : ℕ) (one four far near across doubles key : List ℕ)
    → let z : List ℕ = zip2 bit_xor (zip2 bit_xor one four) far in
    let u : List ℕ = zip2 bit_xor z near in
    block_at b far ≡ turned (turned (block_at b four)) → block_at b near ≡ turned (block_at b z) → block_at b across ≡ turned (turned (block_at b u)) → doubles ≡ map doubled_back u
    → block_at b (zip2 bit_xor (zip2 bit_xor (zip2 bit_xor doubles z) (zip2 bit_xor u across)) key) ≡ mixed_lanes (block_at b one) (block_at b four) (block_at b key)
mixed_at b one four far near across doubles key ef en ea ed =
    let z : List ℕ = zip2 bit_xor (zip2 bit_xor one four) far in
    let u : List ℕ = zip2 bit_xor z near in
    let z' : List ℕ = zip2 bit_xor (zip2 bit_xor (block_at b one) (block_at b four)) (turned (turned (block_at b four))) in
    let u' : List ℕ = zip2 bit_xor z' (turned z') in
    let ez : block_at b z ≡ z' = block-xor b (zip2 bit_xor one four) far ∙ ap₂ (zip2 bit_xor) (block-xor b one four) ef in
    let eu : block_at b u ≡ u' = block-xor b z near ∙ ap₂ (zip2 bit_xor) ez (en ∙ ap turned ez) in
    let doubled : block_at b doubles ≡ map doubled_back u' = block-map doubled_back u doubles b ed ∙ ap (map doubled_back) eu in
    let turns : block_at b across ≡ turned (turned u') = ea ∙ ap (λ (l : List ℕ). turned (turned l)) eu in
    block-xor b (zip2 bit_xor (zip2 bit_xor doubles z) (zip2 bit_xor u across)) key
    ∙ ap (λ (l : List ℕ). zip2 bit_xor l (block_at b key))
    (block-xor b (zip2 bit_xor doubles z) (zip2 bit_xor u across)
    ∙ ap₂ (zip2 bit_xor) (block-xor b doubles z ∙ ap₂ (zip2 bit_xor) doubled ez) (block-xor b u across ∙ ap₂ (zip2 bit_xor) eu turns))
