-- Octets, and blocks of them. A list of numbers is not octets by itself.
use Rattle.std.specs.Prelude.{◌≡◌, ℕ, ◌<◌, ◌*◌, List, length, slice_index, take, drop}

-- each element is an octet
pub record IsOctets (s : List ℕ) : Type 0 where
  pub below : (k : ℕ) → slice_index s k < 256

-- a block of the cipher, or a state of it: 16 octets (FIPS 197, section 3.4)
pub record IsBlock (s : List ℕ) : Type 0 where
  pub size : length s ≡ 16
  pub octets : IsOctets s

-- block b of blocks side by side
abbrev pub block_at : ℕ → List ℕ → List ℕ
block_at b v = take 16 (drop (16 * b) v)
