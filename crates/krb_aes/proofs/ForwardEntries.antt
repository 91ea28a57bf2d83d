-- The tables of encryption agree with the definitions of AES, in the tower: computed at each octet.
use Rattle.std.proofs.Common.{◌≡◌, ℕ, ◌%◌, ◌/◌, ◌<◌, bit_xor, ap, ◌∙◌}
use Rattle.krb_aes.specs.Field.{x_times, product_of_low, product, sub}
use Rattle.krb_aes.specs.Tower.{entry, first_quotient, second_quotient, sum_at, pair_sum, sum_of_bits, tower}
use Rattle.krb_aes.specs.declared.tables.TheConstants.{INTO_LOW, INTO_HIGH, ONCE_U, ONCE_T, TWICE_U, TWICE_T, PLAIN_U, PLAIN_T}
use Rattle.krb_aes.proofs.EachOctet.{agree, same_octet}
use Rattle.krb_aes.proofs.SubBytesEntries.{SBOX, sub_entry, sub_entry_is}

-- an octet in the tower, from the tables of its halves
abbrev pub tower_entry : ℕ → ℕ
tower_entry x = bit_xor (entry INTO_LOW (x % 16)) (entry INTO_HIGH (x / 16))

pub tower_entry_agrees : agree tower_entry tower
unfolding entry sum_of_bits tower
tower_entry_agrees = tt

-- the S-box without its constant
abbrev pub bare : ℕ → ℕ
bare x = bit_xor (sub x) 0x63

abbrev bare_entry : ℕ → ℕ
bare_entry x = bit_xor (sub_entry x) 0x63

bare_entry_is : (x : ℕ) → x < 256 → bare_entry x ≡ bare x
bare_entry_is x h = ap (λ (n : ℕ). bit_xor n 0x63) (sub_entry_is x h)

once_agrees : agree (λ x. pair_sum ONCE_U ONCE_T (tower x)) (λ x. tower (bare_entry x))
unfolding SBOX x_times product_of_low product entry first_quotient second_quotient sum_at pair_sum sum_of_bits tower
once_agrees = tt

twice_agrees : agree (λ x. pair_sum TWICE_U TWICE_T (tower x)) (λ x. tower (product 2 (bare_entry x)))
unfolding SBOX x_times product_of_low product entry first_quotient second_quotient sum_at pair_sum sum_of_bits tower
twice_agrees = tt

plain_agrees : agree (λ x. pair_sum PLAIN_U PLAIN_T (tower x)) (λ x. bare_entry x)
unfolding SBOX x_times product_of_low product entry first_quotient second_quotient sum_at pair_sum sum_of_bits tower
plain_agrees = tt

pub once_is : (x : ℕ) → x < 256 → pair_sum ONCE_U ONCE_T (tower x) ≡ tower (bare x)
once_is x h = same_octet (λ x. pair_sum ONCE_U ONCE_T (tower x)) (λ x. tower (bare_entry x)) once_agrees x h ∙ ap tower (bare_entry_is x h)

pub twice_is : (x : ℕ) → x < 256 → pair_sum TWICE_U TWICE_T (tower x) ≡ tower (product 2 (bare x))
twice_is x h = same_octet (λ x. pair_sum TWICE_U TWICE_T (tower x)) (λ x. tower (product 2 (bare_entry x))) twice_agrees x h ∙ ap (λ (n : ℕ). tower (product 2 n)) (bare_entry_is x h)

pub plain_is : (x : ℕ) → x < 256 → pair_sum PLAIN_U PLAIN_T (tower x) ≡ bare x
plain_is x h = same_octet (λ x. pair_sum PLAIN_U PLAIN_T (tower x)) (λ x. bare_entry x) plain_agrees x h ∙ bare_entry_is x h
