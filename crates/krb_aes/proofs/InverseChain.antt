-- The rounds back one after another, in the tower.
use Rattle.std.proofs.Common.{◌≡◌, ℕ, zero, suc, ◌+◌, ◌-◌, ◌<◌, List, [], ◌∷◌, map, get_or, bit_xor, refl, sym, ap, ap₂, ◌∙◌, arith}
use lib.Lanes.{zip2}
use Rattle.std.specs.Int.Bits.{xor_assoc}
use Rattle.std.proofs.lemmas.Nat.{xor_of_8}
use Rattle.krb_aes.specs.Octets.{IsBlock}
use Rattle.krb_aes.specs.Round.{xor_octets, mix_columns, shifted, full_round, round_key}
use Rattle.krb_aes.specs.Aes.{state_after, cipher}
use Rattle.krb_aes.proofs.CipherLemmas.{cipher_of_shifted}
use Rattle.krb_aes.proofs.InjectiveLemmas.{IsBlock-column_octets, IsBlock-state_after, IsBlock-shift_rows, IsBlock-map_sub, IsBlock-last, IsBlock-mix_columns, mix_columns-four_times}
use Rattle.krb_aes.specs.Tower.{linear_back, affine_back}
use Rattle.krb_aes.specs.InverseRound.{UndoesRound, UndoesLastRound}
use Rattle.krb_aes.specs.RoundKeys.{IsDecryptionKey, inverse_mix_columns}
use Rattle.krb_aes.proofs.InverseEntries.{linear_back-xor, affine_back_injective_list}

pub IsBlock-shifted : (s : List ℕ) → IsBlock s → IsBlock (shifted s)
unfolding shifted
IsBlock-shifted s b = IsBlock-shift_rows _ (IsBlock-map_sub s b)

pub affine_back_octets-xor : (xs ys : List ℕ) → ((i : ℕ) → get_or xs i 0 < 256) → ((i : ℕ) → get_or ys i 0 < 256)
    → zip2 bit_xor (map linear_back xs) (map affine_back ys) ≡ map affine_back (xor_octets xs ys)
unfolding affine_back
affine_back_octets-xor [] ys hx hy = refl
affine_back_octets-xor (x ∷ xs) [] hx hy = refl
affine_back_octets-xor (x ∷ xs) (y ∷ ys) hx hy =
    ap₂ (λ (n : ℕ) (l : List ℕ). n ∷ l)
    (sym (linear_back-xor x (bit_xor y 0x63) (hx zero) (xor_of_8 y 0x63 (hy zero) (omega arith))) ∙ ap linear_back (sym (xor_assoc x y 0x63)))
    (affine_back_octets-xor xs ys (λ i. hx (suc i)) (λ i. hy (suc i)))

pub inverse_start : (words b block v : List ℕ) (n : ℕ) → IsBlock b → IsBlock block → v ≡ map affine_back (xor_octets block (round_key words n))
    → map affine_back (shifted (state_after words b (n - 1))) ≡ v → cipher n words b ≡ block
inverse_start words b block v n hb bb ev held =
    let key : List ℕ = round_key words n in
    let s = IsBlock-shifted (state_after words b (n - 1)) (IsBlock-state_after words b (n - 1) hb) in
    let t = IsBlock-last block key bb (IsBlock-column_octets _) in
    cipher_of_shifted words b key block n refl (bb.size ∙ sym (IsBlock-column_octets _).size)
    (affine_back_injective_list _ _ s.octets.below t.octets.below (held ∙ ev) (s.size ∙ sym t.size))

mix-inverse_mix_columns : (s : List ℕ) → IsBlock s → mix_columns (inverse_mix_columns s) ≡ s
unfolding inverse_mix_columns
mix-inverse_mix_columns s b = mix_columns-four_times s b

IsBlock-inverse_mix_columns : (s : List ℕ) → IsBlock s → IsBlock (inverse_mix_columns s)
unfolding inverse_mix_columns
IsBlock-inverse_mix_columns s b = IsBlock-mix_columns _ (IsBlock-mix_columns _ (IsBlock-mix_columns s b))

pub inverse_step : (words b v next key : List ℕ) (m r : ℕ) → m ≡ r + 1 → IsBlock b → IsDecryptionKey key (round_key words m)
    → UndoesRound v key next
    → map affine_back (shifted (state_after words b r)) ≡ next → map affine_back (shifted (state_after words b m)) ≡ v
unfolding state_after
inverse_step words b v next key m r at hb is step held =
    let at' : m ≡ suc r = omega arith in
    let octets : List ℕ = inverse_mix_columns (round_key words m) in
    let block : IsBlock octets = IsBlock-inverse_mix_columns (round_key words m) (IsBlock-column_octets _) in
    let round : round_key words (suc r) ≡ mix_columns octets =
    ap (λ (n : ℕ). round_key words n) (sym at') ∙ sym (mix-inverse_mix_columns (round_key words m) (IsBlock-column_octets _)) in
    ap (λ (n : ℕ). map affine_back (shifted (state_after words b n))) at'
    ∙ ap (λ (k : List ℕ). map affine_back (shifted (full_round (state_after words b r) k))) round
    ∙ step (state_after words b r) octets (IsBlock-state_after words b r hb) block is held

pub inverse_end : (words out v key : List ℕ) (r : ℕ) → r ≡ 0 → key ≡ round_key words 0
    → UndoesLastRound v key out
    → map affine_back (shifted (state_after words out r)) ≡ v
unfolding state_after
inverse_end words out v key r none ek step = rw none (step (xor_octets out (round_key words 0)) (round_key words 0) (IsBlock-column_octets _) ek refl)

pub decryption_key_as : (key same round : List ℕ) → key ≡ same → IsDecryptionKey same round → IsDecryptionKey key round
decryption_key_as key same round e is = e ∙ is
