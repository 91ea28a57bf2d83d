-- The blocks of PBKDF2, iteration after iteration (RFC 2898, section 5.2).
use Rattle.std.proofs.Common.{◌≡◌, ℕ, suc, ◌+◌, ◌-◌, ◌⊎◌, List, [], ◌++◌, length, take, inl, inr, sym, ap, ap₂, ◌∙◌, arith}
use Rattle.std.proofs.lemmas.List.{append-nil}
use Rattle.std.specs.Int.{w32, to_be_bytes}
use Rattle.krb_aes.specs.Round.{xor_octets}
use Rattle.krb_crypto.specs.Hmac.{hmac}
use Rattle.krb_crypto.specs.Password.{iterated, summed, blocks, pbkdf2}
use Rattle.krb_crypto.proofs.CtsLemmas.{take_over}

pub iterated_first : (password salt octets last : List ℕ) (i n : ℕ) → n ≡ 0 → octets ≡ to_be_bytes w32 i → last ≡ hmac password (salt ++ octets)
    → (last ≡ iterated password salt i n) × (last ≡ summed password salt i n)
unfolding iterated summed
iterated_first password salt octets last i n none eo el =
    let here : last ≡ hmac password (salt ++ to_be_bytes w32 i) = el ∙ ap (λ (l : List ℕ). hmac password (salt ++ l)) eo in
    rw none (here, here)

pub iterated_next : (password salt last next sum more : List ℕ) (i n m : ℕ) → m ≡ n + 1 → last ≡ iterated password salt i n → sum ≡ summed password salt i n
    → next ≡ hmac password (last ++ []) → more ≡ xor_octets sum next → (next ≡ iterated password salt i m) × (more ≡ summed password salt i m)
unfolding iterated summed
iterated_next password salt last next sum more i n m at el es en em =
    let at' : m ≡ suc n = omega arith in
    let here : next ≡ iterated password salt i (suc n) = en ∙ ap (hmac password) (append-nil last ∙ el) in
    rw at' (here, em ∙ ap₂ xor_octets es here)

pub pbkdf2_of_one : (password salt first out : List ℕ) (c n : ℕ) → n ≡ 16 → first ≡ summed password salt 1 (c - 1) → out ≡ take 16 first
    → out ≡ pbkdf2 password salt c n
unfolding blocks
pbkdf2_of_one password salt first out c n size ef eo = rw size (eo ∙ ap (take 16) ef)

pub pbkdf2_of_two : (password salt first second out : List ℕ) (c n : ℕ) → n ≡ 32 → length first ≡ 20
    → first ≡ summed password salt 1 (c - 1) → second ≡ summed password salt 2 (c - 1) → out ≡ first ++ take 12 second
    → out ≡ pbkdf2 password salt c n
unfolding blocks
pbkdf2_of_two password salt first second out c n size width ef es eo =
    rw size (eo ∙ sym (take_over first second 20 12 width) ∙ ap₂ (λ (x y : List ℕ). take 32 (x ++ y)) ef es)

pub other_size : (n : ℕ) → (n ≡ 16) ⊎ (n ≡ 32) → (n ≡ 16 → ⊥) → n ≡ 32
other_size n (inl e) differs = absurd (differs e)
other_size n (inr e) differs = e
