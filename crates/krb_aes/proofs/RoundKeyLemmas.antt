-- The keys of the rounds, for the lanes.
use Rattle.std.proofs.Common.{◌≡◌, ℕ, ◌+◌, ◌<◌, ◌≤◌, ◌⊎◌, inl, inr, set, List, [], map, length, get_or, replicate, bit_xor, refl, sym, subst, ap, ◌∙◌, arith}
use lib.Lanes.{zip2}
use Rattle.std.proofs.lemmas.Bool.{cases_lt}
use Rattle.std.proofs.lemmas.List.{get_or-set_other}
use Rattle.std.proofs.lemmas.Grind.{get_or-set_at}
use Rattle.std.proofs.lemmas.Simd.{zip2_splat, map-map}
use Rattle.krb_aes.specs.Round.{mix_columns}
use Rattle.krb_aes.specs.Tower.{tower, tower_key, plain_key, linear_back, affine_back, turned}
use Rattle.krb_aes.specs.RoundKeys.{IsDecryptionKey, inverse_mix_columns}

-- a key with the S-box's constant
pub plain_is : (key : List ℕ) → length key ≡ 16 → zip2 bit_xor key (replicate 16 0x63) ≡ map plain_key key
unfolding plain_key
plain_is key long = zip2_splat bit_xor key 16 0x63 long

pub tower_key_is : (key v r : List ℕ) → length key ≡ 16 → v ≡ zip2 bit_xor key (replicate 16 0x63) → r ≡ map tower v → r ≡ map tower_key key
unfolding tower_key
tower_key_is key v r long ev er = er ∙ ap (map tower) (ev ∙ zip2_splat bit_xor key 16 0x63 long) ∙ map-map tower (λ x. bit_xor x 0x63) key

pub affine_back_key_is : (key v r : List ℕ) → length key ≡ 16 → v ≡ zip2 bit_xor key (replicate 16 0x63) → r ≡ map linear_back v → r ≡ map affine_back key
unfolding affine_back
affine_back_key_is key v r long ev er = er ∙ ap (map linear_back) (ev ∙ zip2_splat bit_xor key 16 0x63 long) ∙ map-map linear_back (λ x. bit_xor x 0x63) key

-- the key of a round back: MixColumns three times, and then into the tower
pub decryption_key_is : (key once twice unmixed v r : List ℕ) → once ≡ mix_columns key → twice ≡ mix_columns once → unmixed ≡ mix_columns twice
    → v ≡ map linear_back (zip2 bit_xor unmixed (replicate 16 0x63)) → r ≡ turned v → IsDecryptionKey r key
unfolding inverse_mix_columns
decryption_key_is key once twice unmixed v r e1 e2 e3 ev er =
    er ∙ ap turned (affine_back_key_is unmixed _ v (ap length e3) refl ev ∙ ap (map affine_back) (e3 ∙ ap mix_columns (e2 ∙ ap mix_columns e1)))

-- ---- keys set one after another

pub set_here : (keys : List (List ℕ)) (i : ℕ) (key : List ℕ) → length keys ≡ 15 → i < 15 → get_or (set keys i key) i [] ≡ key
set_here keys i key len h = get_or-set_at keys i i key [] refl (omega (arith, len))

pub set_elsewhere : (keys : List (List ℕ)) (i j : ℕ) (key : List ℕ) → (j < i) ⊎ (i < j) → get_or (set keys i key) j [] ≡ get_or keys j []
set_elsewhere keys i j key apart = get_or-set_other keys i j key [] (λ e. elim apart [ inl h ↦ absurd (omega (arith, e, h)) | inr h ↦ absurd (omega (arith, e, h)) ])

-- what holds of the keys below i and of the one that is set there
pub set_next : (P : ℕ → List ℕ → Type 0) (keys : List (List ℕ)) (i : ℕ) (key : List ℕ) → length keys ≡ 15 → i < 15
    → ((r : ℕ) → 1 ≤ r → r < i → P r (get_or keys r [])) → P i key
    → (r : ℕ) → 1 ≤ r → r < i + 1 → P r (get_or (set keys i key) r [])
set_next P keys i key len h below here r some lt =
    elim (cases_lt r i) [
      | inl l ↦ subst (P r) (sym (set_elsewhere keys i r key (inl l))) (below r some l)
      | inr g ↦ let e : i ≡ r = omega (arith, lt, g) in subst (λ (k : ℕ). P k (get_or (set keys i key) k [])) e (subst (P i) (sym (set_here keys i key len h)) here)
    ]
