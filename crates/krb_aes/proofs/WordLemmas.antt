-- The words in 16 octets (FIPS 197, section 5.2), on the lanes of a vector.
use Rattle.std.proofs.Common.{◌≡◌, ℕ, ◌+◌, ◌*◌, ◌/◌, ◌%◌, ◌^◌, ◌<◌, ◌≤◌, List, [], ◌∷◌, ◌++◌, map, length, get_or, replicate, bit_xor, bit_or, refl, sym, subst, ap, ap₂, ◌∙◌, arith, w8, w32, Fits}
use lib.Lanes.{zip2, pick_l, Each1}
use Rattle.std.proofs.lemmas.Simd.{get_or-zip2, length-zip2, Each1-from_get_or, Each1-replicate}
use Rattle.std.proofs.lemmas.List.{get_or-map, length-map, get_or_append_left}
use Rattle.std.proofs.lemmas.Nat.{xor_block, be_bytes_4, or_shifted, xor_of_8}
use Rattle.std.specs.Int.{from_be_bytes, to_be_bytes, rotate_left}
use Rattle.std.specs.Int.Bits.{xor_assoc, xor_zero_r}
use Rattle.krb_aes.specs.Field.{sub}
use Rattle.krb_aes.specs.Word.{word_at, sub_word, words_in, chained_sums}
use Rattle.krb_aes.proofs.LookUps.{IsVector, lane_fits}
use Rattle.krb_aes.proofs.RoundLemmas.{cons_same, four_octets}

-- ---- a word is a number, and the sum of two is that of their octets

pub word_alike : {a a' b b' c c' d d' : ℕ} → a ≡ a' → b ≡ b' → c ≡ c' → d ≡ d' → from_be_bytes w32 (a ∷ b ∷ c ∷ d ∷ []) ≡ from_be_bytes w32 (a' ∷ b' ∷ c' ∷ d' ∷ [])
word_alike e f g h = ap (from_be_bytes w32) (cons_same e (cons_same f (cons_same g (ap (λ (n : ℕ). n ∷ []) h))))

nested : (a b c d : ℕ) → from_be_bytes w32 (a ∷ b ∷ c ∷ d ∷ []) ≡ ((a * 2 ^ 8 + b) * 2 ^ 8 + c) * 2 ^ 8 + d
nested a b c d = omega arith

-- an octet before three zeros
pub leading : (a : ℕ) → from_be_bytes w32 (a ∷ 0 ∷ 0 ∷ 0 ∷ []) ≡ a * 2 ^ 24
leading a = omega arith

sum_of_words : (a b c d a' b' c' d' : ℕ) → b < 256 → c < 256 → d < 256 → b' < 256 → c' < 256 → d' < 256
    → from_be_bytes w32 (bit_xor a a' ∷ bit_xor b b' ∷ bit_xor c c' ∷ bit_xor d d' ∷ [])
    ≡ bit_xor (from_be_bytes w32 (a ∷ b ∷ c ∷ d ∷ [])) (from_be_bytes w32 (a' ∷ b' ∷ c' ∷ d' ∷ []))
sum_of_words a b c d a' b' c' d' hb hc hd hb' hc' hd' =
    nested (bit_xor a a') (bit_xor b b') (bit_xor c c') (bit_xor d d')
    ∙ sym (ap₂ bit_xor (nested a b c d) (nested a' b' c' d')
    ∙ xor_block 8 ((a * 2 ^ 8 + b) * 2 ^ 8 + c) ((a' * 2 ^ 8 + b') * 2 ^ 8 + c') d d' hd hd'
    ∙ ap (λ (n : ℕ). n * 2 ^ 8 + bit_xor d d')
    (xor_block 8 (a * 2 ^ 8 + b) (a' * 2 ^ 8 + b') c c' hc hc' ∙ ap (λ (n : ℕ). n * 2 ^ 8 + bit_xor c c') (xor_block 8 a a' b b' hb hb')))

pub word_at-xor : (u v : List ℕ) → IsVector u → IsVector v → (i : ℕ) → i + 4 ≤ 16 → word_at (zip2 bit_xor u v) i ≡ bit_xor (word_at u i) (word_at v i)
word_at-xor u v fu fv i h =
    word_alike (at i (omega arith)) (at (i + 1) (omega arith)) (at (i + 2) (omega arith)) (at (i + 3) (omega arith))
    ∙ sum_of_words _ _ _ _ _ _ _ _ (lane_fits u (i + 1) fu.1) (lane_fits u (i + 2) fu.1) (lane_fits u (i + 3) fu.1)
    (lane_fits v (i + 1) fv.1) (lane_fits v (i + 2) fv.1) (lane_fits v (i + 3) fv.1)
  where
    at : (j : ℕ) → j < 16 → get_or (zip2 bit_xor u v) j 0 ≡ bit_xor (get_or u j 0) (get_or v j 0)
    at j l = get_or-zip2 bit_xor u v j 0 0 0 (omega (arith, fu.0)) (omega (arith, fv.0))

pub words_in-xor : (u v : List ℕ) → IsVector u → IsVector v
    → words_in (zip2 bit_xor u v)
    ≡ bit_xor (word_at u 0) (word_at v 0) ∷ bit_xor (word_at u 4) (word_at v 4) ∷ bit_xor (word_at u 8) (word_at v 8) ∷ bit_xor (word_at u 12) (word_at v 12) ∷ []
words_in-xor u v fu fv =
    cons_same (word_at-xor u v fu fv 0 (omega arith)) (cons_same (word_at-xor u v fu fv 4 (omega arith))
    (cons_same (word_at-xor u v fu fv 8 (omega arith)) (cons_same (word_at-xor u v fu fv 12 (omega arith)) refl)))

-- ---- lanes that fit

vector-xor : (u v : List ℕ) → IsVector u → IsVector v → IsVector (zip2 bit_xor u v)
vector-xor u v fu fv =
    let long = length-zip2 bit_xor u v (fu.0 ∙ sym fv.0) ∙ fu.0 in (
      long,
      Each1-from_get_or (Fits w8) (zip2 bit_xor u v) 0 (λ i h. record {
        fits = subst (λ (n : ℕ). n < 256) (sym (get_or-zip2 bit_xor u v i 0 0 0 (omega (arith, fu.0, long, h)) (omega (arith, fv.0, long, h))))
            (xor_of_8 _ _ (lane_fits u i fu.1) (lane_fits v i fv.1));
      }),
    )

picked_fit : (xs ks : List ℕ) → Each1 (Fits w8) xs → Each1 (Fits w8) (pick_l 0 xs ks)
picked_fit xs [] h = tt
picked_fit xs (k ∷ ks) h = (record { fits = lane_fits xs k h }, picked_fit xs ks h)

both_fit : (xs ys : List ℕ) → Each1 (Fits w8) xs → Each1 (Fits w8) ys → Each1 (Fits w8) (xs ++ ys)
both_fit [] ys h g = g
both_fit (x ∷ xs) ys h g = (h.0, both_fit xs ys h.1 g)

-- ---- the words of the next round key

-- the words one place on, and zeros in front
abbrev pub one_on : List ℕ → List ℕ
one_on v = pick_l 0 (replicate 16 0 ++ v) (0 ∷ 1 ∷ 2 ∷ 3 ∷ 16 ∷ 17 ∷ 18 ∷ 19 ∷ 20 ∷ 21 ∷ 22 ∷ 23 ∷ 24 ∷ 25 ∷ 26 ∷ 27 ∷ [])

-- the words two places on
abbrev pub two_on : List ℕ → List ℕ
two_on v = pick_l 0 (replicate 16 0 ++ v) (0 ∷ 1 ∷ 2 ∷ 3 ∷ 4 ∷ 5 ∷ 6 ∷ 7 ∷ 16 ∷ 17 ∷ 18 ∷ 19 ∷ 20 ∷ 21 ∷ 22 ∷ 23 ∷ [])

moved_fits : (v ks : List ℕ) → Each1 (Fits w8) v → Each1 (Fits w8) (pick_l 0 (replicate 16 0 ++ v) ks)
moved_fits v ks h = picked_fit (replicate 16 0 ++ v) ks (both_fit (replicate 16 0) v (Each1-replicate (Fits w8) 16 0 (record { fits = omega arith })) h)

first_sum : (b w : ℕ) → bit_xor (bit_xor (bit_xor b 0) 0) w ≡ bit_xor b w
first_sum b w = ap (λ (n : ℕ). bit_xor n w) (xor_zero_r (bit_xor b 0) ∙ xor_zero_r b)

second_sum : (b c w : ℕ) → bit_xor (bit_xor (bit_xor c b) 0) w ≡ bit_xor c (bit_xor b w)
second_sum b c w = ap (λ (n : ℕ). bit_xor n w) (xor_zero_r (bit_xor c b)) ∙ xor_assoc c b w

third_sum : (b c d w : ℕ) → bit_xor (bit_xor (bit_xor d c) (bit_xor b 0)) w ≡ bit_xor d (bit_xor c (bit_xor b w))
third_sum b c d w =
    ap (λ (n : ℕ). bit_xor (bit_xor (bit_xor d c) n) w) (xor_zero_r b) ∙ xor_assoc (bit_xor d c) b w ∙ xor_assoc d c (bit_xor b w)

fourth_sum : (b c d e w : ℕ) → bit_xor (bit_xor (bit_xor e d) (bit_xor c b)) w ≡ bit_xor e (bit_xor d (bit_xor c (bit_xor b w)))
fourth_sum b c d e w =
    xor_assoc (bit_xor e d) (bit_xor c b) w ∙ ap (bit_xor (bit_xor e d)) (xor_assoc c b w) ∙ xor_assoc e d (bit_xor c (bit_xor b w))

abbrev pub next_lanes : List ℕ → List ℕ → List ℕ
next_lanes before added =
    let pairs = zip2 bit_xor before (one_on before) in zip2 bit_xor (zip2 bit_xor pairs (two_on pairs)) added

pub next_lanes_are : (before added : List ℕ) (w : ℕ) → IsVector before → IsVector added → words_in added ≡ replicate 4 w
    → words_in (next_lanes before added) ≡ chained_sums w (words_in before)
next_lanes_are before added w fb fa ea =
    let one : List ℕ = one_on before in
    let f1 : IsVector one = (refl, moved_fits before (0 ∷ 1 ∷ 2 ∷ 3 ∷ 16 ∷ 17 ∷ 18 ∷ 19 ∷ 20 ∷ 21 ∷ 22 ∷ 23 ∷ 24 ∷ 25 ∷ 26 ∷ 27 ∷ []) fb.1) in
    let pairs : List ℕ = zip2 bit_xor before one in
    let fp : IsVector pairs = vector-xor before one fb f1 in
    let two : List ℕ = two_on pairs in
    let f2 : IsVector two = (refl, moved_fits pairs (0 ∷ 1 ∷ 2 ∷ 3 ∷ 4 ∷ 5 ∷ 6 ∷ 7 ∷ 16 ∷ 17 ∷ 18 ∷ 19 ∷ 20 ∷ 21 ∷ 22 ∷ 23 ∷ []) fp.1) in
    let pair : (i : ℕ) → i + 4 ≤ 16 → word_at pairs i ≡ bit_xor (word_at before i) (word_at one i) = word_at-xor before one fb f1 in
    let sum : (i : ℕ) → i + 4 ≤ 16 → word_at (zip2 bit_xor pairs two) i ≡ bit_xor (word_at pairs i) (word_at two i) = word_at-xor pairs two fp f2 in
    words_in-xor (zip2 bit_xor pairs two) added (vector-xor pairs two fp f2) fa
    ∙ cons_same (ap₂ bit_xor (sum 0 (omega arith) ∙ ap₂ bit_xor (pair 0 (omega arith)) refl) (ap (λ (l : List ℕ). get_or l 0 0) ea) ∙ first_sum (word_at before 0) w)
    (cons_same (ap₂ bit_xor (sum 4 (omega arith) ∙ ap₂ bit_xor (pair 4 (omega arith)) refl) (ap (λ (l : List ℕ). get_or l 1 0) ea) ∙ second_sum (word_at before 0) (word_at before 4) w)
    (cons_same (ap₂ bit_xor (sum 8 (omega arith) ∙ ap₂ bit_xor (pair 8 (omega arith)) (pair 0 (omega arith))) (ap (λ (l : List ℕ). get_or l 2 0) ea) ∙ third_sum (word_at before 0) (word_at before 4) (word_at before 8) w)
    (cons_same (ap₂ bit_xor (sum 12 (omega arith) ∙ ap₂ bit_xor (pair 12 (omega arith)) (pair 4 (omega arith))) (ap (λ (l : List ℕ). get_or l 3 0) ea) ∙ fourth_sum (word_at before 0) (word_at before 4) (word_at before 8) (word_at before 12) w) refl)))

-- ---- SubWord and RotWord

rotated : (a b c d : ℕ) → a < 256 → b < 256 → c < 256 → d < 256
    → rotate_left w32 (from_be_bytes w32 (a ∷ b ∷ c ∷ d ∷ [])) 8 ≡ from_be_bytes w32 (b ∷ c ∷ d ∷ a ∷ [])
rotated a b c d ha hb hc hd =
    let n : ℕ = from_be_bytes w32 (a ∷ b ∷ c ∷ d ∷ []) in
    let rest : ℕ = (b * 2 ^ 8 + c) * 2 ^ 8 + d in
    let is : n ≡ a * 2 ^ 24 + rest = omega arith in
    let low : (n * 2 ^ 8) % 2 ^ 32 ≡ rest * 2 ^ 8 = omega (arith, is) in
    let high : n / 2 ^ 24 ≡ a = omega (arith, is) in
    ap₂ bit_or low high ∙ or_shifted rest 8 a ha ∙ sym (nested b c d a)

-- what a vector of look-ups has at a place
looked_at : (key s : List ℕ) → IsVector key → s ≡ map sub key → (j : ℕ) → j < 16 → get_or (s ++ s) j 0 ≡ sub (get_or key j 0)
looked_at key s fits e j h =
    let long : length s ≡ 16 = ap length e ∙ length-map key sub ∙ fits.0 in
    get_or_append_left s s 0 j (omega (arith, long)) ∙ ap (λ (l : List ℕ). get_or l j 0) e ∙ get_or-map sub key j 0 0 (omega (arith, fits.0))

-- the octets of the word at a place
pub octets_back : (key : List ℕ) (i : ℕ) → IsVector key → to_be_bytes w32 (word_at key i) ≡ get_or key i 0 ∷ get_or key (i + 1) 0 ∷ get_or key (i + 2) 0 ∷ get_or key (i + 3) 0 ∷ []
octets_back key i fits =
    be_bytes_4 (get_or key i 0 ∷ get_or key (i + 1) 0 ∷ get_or key (i + 2) 0 ∷ get_or key (i + 3) 0 ∷ []) (word_at key i) refl
    (four_octets _ _ _ _ (lane_fits key i fits.1) (lane_fits key (i + 1) fits.1) (lane_fits key (i + 2) fits.1) (lane_fits key (i + 3) fits.1)) refl

octets_turned : (key : List ℕ) → IsVector key
    → to_be_bytes w32 (rotate_left w32 (word_at key 12) 8) ≡ get_or key 13 0 ∷ get_or key 14 0 ∷ get_or key 15 0 ∷ get_or key 12 0 ∷ []
octets_turned key fits =
    be_bytes_4 (get_or key 13 0 ∷ get_or key 14 0 ∷ get_or key 15 0 ∷ get_or key 12 0 ∷ []) (rotate_left w32 (word_at key 12) 8) refl
    (four_octets _ _ _ _ (lane_fits key 13 fits.1) (lane_fits key 14 fits.1) (lane_fits key 15 fits.1) (lane_fits key 12 fits.1))
    (rotated _ _ _ _ (lane_fits key 12 fits.1) (lane_fits key 13 fits.1) (lane_fits key 14 fits.1) (lane_fits key 15 fits.1))

pub four_same : {x y : ℕ} → x ≡ y → x ∷ x ∷ x ∷ x ∷ [] ≡ replicate 4 y
four_same e = cons_same e (cons_same e (cons_same e (cons_same e refl)))

pub last_words_are : (key s : List ℕ) → IsVector key → s ≡ map sub key
    → words_in (pick_l 0 (s ++ s) (12 ∷ 13 ∷ 14 ∷ 15 ∷ 12 ∷ 13 ∷ 14 ∷ 15 ∷ 12 ∷ 13 ∷ 14 ∷ 15 ∷ 12 ∷ 13 ∷ 14 ∷ 15 ∷ [])) ≡ replicate 4 (sub_word (word_at key 12))
unfolding sub_word
last_words_are key s fits e =
    let at = looked_at key s fits e in
    four_same (word_alike (at 12 (omega arith)) (at 13 (omega arith)) (at 14 (omega arith)) (at 15 (omega arith))
    ∙ sym (ap (λ (l : List ℕ). from_be_bytes w32 (map sub l)) (octets_back key 12 fits)))

pub turned_words_are : (key s : List ℕ) → IsVector key → s ≡ map sub key
    → words_in (pick_l 0 (s ++ s) (13 ∷ 14 ∷ 15 ∷ 12 ∷ 13 ∷ 14 ∷ 15 ∷ 12 ∷ 13 ∷ 14 ∷ 15 ∷ 12 ∷ 13 ∷ 14 ∷ 15 ∷ 12 ∷ [])) ≡ replicate 4 (sub_word (rotate_left w32 (word_at key 12) 8))
unfolding sub_word
turned_words_are key s fits e =
    let at = looked_at key s fits e in
    four_same (word_alike (at 13 (omega arith)) (at 14 (omega arith)) (at 15 (omega arith)) (at 12 (omega arith))
    ∙ sym (ap (λ (l : List ℕ). from_be_bytes w32 (map sub l)) (octets_turned key fits)))

-- the sum of two vectors of four equal words
pub same_words-xor : (u v : List ℕ) (a b : ℕ) → IsVector u → IsVector v → words_in u ≡ replicate 4 a → words_in v ≡ replicate 4 b
    → words_in (zip2 bit_xor u v) ≡ replicate 4 (bit_xor a b)
same_words-xor u v a b fu fv eu ev =
    words_in-xor u v fu fv
    ∙ cons_same (both 0) (cons_same (both 1) (cons_same (both 2) (cons_same (both 3) refl)))
  where
    both : (j : ℕ) → bit_xor (get_or (words_in u) j 0) (get_or (words_in v) j 0) ≡ bit_xor (get_or (replicate 4 a) j 0) (get_or (replicate 4 b) j 0)
    both j = ap₂ bit_xor (ap (λ (l : List ℕ). get_or l j 0) eu) (ap (λ (l : List ℕ). get_or l j 0) ev)

abbrev constant_lanes : ℕ → List ℕ
constant_lanes c = c ∷ 0 ∷ 0 ∷ 0 ∷ c ∷ 0 ∷ 0 ∷ 0 ∷ c ∷ 0 ∷ 0 ∷ 0 ∷ c ∷ 0 ∷ 0 ∷ 0 ∷ []

constant_fits : (c : ℕ) → c < 256 → IsVector (constant_lanes c)
constant_fits c h =
    let x : Fits w8 c = record { fits = h } in
    let z : Fits w8 0 = record { fits = omega arith } in
    (refl, (x, (z, (z, (z, (x, (z, (z, (z, (x, (z, (z, (z, (x, (z, (z, (z, tt)))))))))))))))))

-- an octet that is p, before three zeros, added to each of four equal words
pub constant_added : (words : List ℕ) (w c p : ℕ) → IsVector words → c < 256 → c ≡ p → words_in words ≡ replicate 4 w
    → words_in (zip2 bit_xor words (constant_lanes c)) ≡ replicate 4 (bit_xor w (p * 2 ^ 24))
constant_added words w c p fits h e ew =
    same_words-xor words (constant_lanes c) w (p * 2 ^ 24) fits (constant_fits c h) ew (four_same (leading c ∙ ap (λ (n : ℕ). n * 2 ^ 24) e))
