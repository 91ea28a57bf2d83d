-- The value of an initiator's checksum (RFC 4121, section 4.1.1.1): the length of the hash of channel bindings, which is 16,
-- in octets 0 to 3, the hash in octets 4 to 19, the flags in octets 20 to 23; numbers have their lowest octet first.
use Rattle.std.specs.Prelude.{ℕ, List, ◌∷◌, ◌++◌, take, drop, replicate}
use Rattle.std.specs.Int.{w32, to_le_bytes}

-- no bindings and no flags
abbrev pub default_value : List ℕ
default_value = 16 ∷ replicate 23 0

abbrev pub with_flags : List ℕ → ℕ → List ℕ
with_flags value flags = take 20 value ++ (to_le_bytes w32 flags ++ drop 24 value)

abbrev pub with_hash : List ℕ → List ℕ → List ℕ
with_hash value hash = take 4 value ++ (hash ++ drop 20 value)
