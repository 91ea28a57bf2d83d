-- The vector operations, lane by lane.
use Rattle.std.proofs.Common.{◌≡◌, ℕ, zero, suc, ◌+◌, ◌*◌, ◌/◌, ◌%◌, ◌^◌, ◌<◌, Bool, true, false, cond, ◌||◌, ltb, T, List, [], ◌∷◌, map, length, get_or, replicate, bit_and, bit_xor, refl, sym, ap, ◌∙◌, arith, w8, Fits}
use lib.Lanes.{zip2, Each1}
use mir.Val.{zeroes}
use Rattle.std.proofs.lemmas.Simd.{Each1-weaker, Each1-zip2, Each2-splat, below_from_Fits, length-zip2, zip2_splat, zip2_of_maps, map-map, swz_l, SwzOk, SwzOk-from_Each1, length-swz_l, get_or-swz_l}
use Rattle.std.proofs.lemmas.List.{get_or-map, length-map, ext_get_or}
use Rattle.krb_aes.specs.Tower.{entry}
use Rattle.krb_aes.proofs.EachOctet.{every_below, agree, same_octet, mapped_octets}

abbrev pub IsVector : List ℕ → Type 0
IsVector v = (length v ≡ 16) × Each1 (Fits w8) v

pub lane_fits : (v : List ℕ) (i : ℕ) → Each1 (Fits w8) v → get_or v i 0 < 256
lane_fits [] i h = omega arith
lane_fits (x ∷ xs) zero h = h.0.fits
lane_fits (x ∷ xs) (suc i) h = lane_fits xs i h.1

abbrev pub divided : ℕ → ℕ → ℕ
divided a b = a / 2 ^ b

abbrev pub is_place : ℕ → Bool
is_place j = zeroes 16 w8 j || ltb j 16

pub places_ok : (v : List ℕ) → IsVector v → SwzOk w8 16 16 0 (zip2 bit_and v (replicate 16 143))
places_ok v fits =
    let small = Each1-weaker (λ a. a < 256) (λ a. T (is_place (bit_and a 143))) (every_below (λ a. is_place (bit_and a 143)) 256 tt) v (below_from_Fits w8 v fits.1) in
    SwzOk-from_Each1 w8 16 1 16 0 (zip2 bit_and v (replicate 16 143)) refl (omega (arith, length-zip2 bit_and v (replicate 16 143) fits.0))
    (Each1-zip2 bit_and (λ j. T (is_place j)) v (replicate 16 143) (Each2-splat (λ a b. T (is_place (bit_and a b))) v 16 143 small))

-- what a look-up reads at a masked place: computed for the place, with the table left open
abbrev pub masked : List ℕ → ℕ → ℕ
masked table a = cond (zeroes 16 w8 (bit_and a 143)) 0 (get_or table (bit_and a 143) 0)

mark_is : agree (λ a. cond (zeroes 16 w8 (bit_and a 143)) 0 1) (λ a. cond (ltb a 128) 1 0)
mark_is = tt

place_is : agree (λ a. cond (ltb a 128) (bit_and a 143) 0) (λ a. cond (ltb a 128) (a % 16) 0)
place_is = tt

-- a masked place gives the entry
pub masked_is : (table : List ℕ) (a : ℕ) → a < 256 → masked table a ≡ entry table a
unfolding entry
masked_is table a h = go (zeroes 16 w8 (bit_and a 143)) (ltb a 128) refl refl
  where
    go : (z t : Bool) → zeroes 16 w8 (bit_and a 143) ≡ z → ltb a 128 ≡ t → cond z 0 (get_or table (bit_and a 143) 0) ≡ cond t (get_or table (a % 16) 0) 0
    go true true p q = absurd (omega (arith, ap {B = ℕ} (λ (b : Bool). cond b 0 1) p, same_octet (λ a. cond (zeroes 16 w8 (bit_and a 143)) 0 1) (λ a. cond (ltb a 128) 1 0) mark_is a h, ap {B = ℕ} (λ (b : Bool). cond b 1 0) q))
    go true false p q = refl
    go false true p q =
        ap (λ (k : ℕ). get_or table k 0)
        (sym (ap {B = ℕ} (λ (b : Bool). cond b (bit_and a 143) 0) q) ∙ same_octet (λ a. cond (ltb a 128) (bit_and a 143) 0) (λ a. cond (ltb a 128) (a % 16) 0) place_is a h ∙ ap {B = ℕ} (λ (b : Bool). cond b (a % 16) 0) q)
    go false false p q = absurd (omega (arith, ap {B = ℕ} (λ (b : Bool). cond b 0 1) p, same_octet (λ a. cond (zeroes 16 w8 (bit_and a 143)) 0 1) (λ a. cond (ltb a 128) 1 0) mark_is a h, ap {B = ℕ} (λ (b : Bool). cond b 1 0) q))

pub looked_up : (table v : List ℕ) → IsVector v → swz_l w8 16 table 0 (zip2 bit_and v (replicate 16 143)) ≡ map (entry table) v
looked_up table v fits =
    let js : List ℕ = zip2 bit_and v (replicate 16 143) in
    let e : js ≡ map (λ a. bit_and a 143) v = zip2_splat bit_and v 16 143 fits.0 in
    let long : length js ≡ 16 = ap length e ∙ length-map v (λ a. bit_and a 143) ∙ fits.0 in
    ext_get_or 0 _ _ (length-swz_l w8 16 table 0 js ∙ long ∙ sym (length-map v (entry table) ∙ fits.0)) (λ i h.
    let lt : i < 16 = omega (arith, length-swz_l w8 16 table 0 js) in
    let within : i < length v = omega (arith, fits.0) in
    let at : get_or js i 0 ≡ bit_and (get_or v i 0) 143 = ap (λ (l : List ℕ). get_or l i 0) e ∙ get_or-map (λ a. bit_and a 143) v i 0 0 within in
    let block : 16 * ((0 + i) / 16) + get_or js i 0 ≡ get_or js i 0 = omega arith in
    get_or-swz_l w8 16 table 0 js i (omega arith)
    ∙ ap (λ (k : ℕ). cond (zeroes 16 w8 (get_or js i 0)) 0 (get_or table k 0)) block
    ∙ ap (λ (k : ℕ). cond (zeroes 16 w8 k) 0 (get_or table k 0)) at
    ∙ masked_is table (get_or v i 0) (lane_fits v i fits.1)
    ∙ sym (get_or-map (entry table) v i 0 0 within))

pub low_is : (v : List ℕ) → IsVector v → zip2 bit_and v (replicate 16 15) ≡ map (λ x. x % 16) v
low_is v fits = zip2_splat bit_and v 16 15 fits.0 ∙ mapped_octets (λ x. bit_and x 15) (λ x. x % 16) tt v fits.1

pub high_is : (v : List ℕ) → IsVector v → zip2 divided v (replicate 16 4) ≡ map (λ x. x / 16) v
high_is v fits = zip2_splat divided v 16 4 fits.0

-- ---- vectors that were computed lane by lane from v

pub entry_at : (table : List ℕ) (f : ℕ → ℕ) (v at r : List ℕ) → at ≡ map f v → r ≡ map (entry table) at → r ≡ map (λ x. entry table (f x)) v
entry_at table f v at r e h = h ∙ ap (map (entry table)) e ∙ map-map (entry table) f v

pub sum_at_each : (f g : ℕ → ℕ) (v a b : List ℕ) → a ≡ map f v → b ≡ map g v → zip2 bit_xor a b ≡ map (λ x. bit_xor (f x) (g x)) v
sum_at_each f g v a b e h = zip2_of_maps bit_xor f g v e h
