-- Rounds of the equivalent inverse cipher (FIPS 197, section 5.3.5), in the tower.
use Rattle.std.specs.Prelude.{◌≡◌, ℕ, List, map}
use Rattle.krb_aes.specs.Octets.{IsBlock}
use Rattle.krb_aes.specs.Round.{full_round, mix_columns, shifted, xor_octets}
use Rattle.krb_aes.specs.Tower.{affine_back, turned}

-- the inverse cipher's representation of the state before a round: the octets after that round's SubBytes and ShiftRows, each
-- through affine_back
abbrev pub inverse_state : List ℕ → List ℕ
inverse_state s = map affine_back (shifted s)

-- one round of the inverse cipher, for the round key that is MixColumns of k: if its result represents s, its argument represents
-- the state after the round of s
abbrev pub UndoesRound : List ℕ → List ℕ → List ℕ → Type 0
UndoesRound v key result =
    (s k : List ℕ) → IsBlock s → IsBlock k → key ≡ turned (map affine_back k) → inverse_state s ≡ result → inverse_state (full_round s (mix_columns k)) ≡ v

-- the last round of the inverse cipher returns the block itself: its argument represents the block with the first round key added
abbrev pub UndoesLastRound : List ℕ → List ℕ → List ℕ → Type 0
UndoesLastRound v key result = (s k : List ℕ) → IsBlock k → key ≡ k → s ≡ xor_octets result k → inverse_state s ≡ v
