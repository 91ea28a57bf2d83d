-- The number that the contents of an INTEGER are.
use Rattle.std.specs.Prelude.{ℕ, ◌^◌, Bool, List, length, get_or, nat_lt, ◌&&◌, if◌then◌else◌, ℤ, pos, negsuc, ◌-ℤ◌, ◌∷◌}
use Rattle.krb_der.specs.Reading.{number_of}

-- The two's complement number that octets spell, the highest first (X.690 8.3.3): below 80 hex the first octet's highest
-- bit counts for nothing, and from there on it counts negatively. No octets are 0.
abbrev pub integer_value : List ℕ → ℤ
integer_value octets = if nat_lt (get_or octets 0 0) 0x80 then pos (number_of octets) else pos (number_of octets) -ℤ pos (256 ^ length octets)

-- an INTEGER from 0 to 2^32 - 1, in any spelling: the UInt32 of RFC 4120 5.2.4
abbrev pub is_uint32 : List ℕ → Bool
is_uint32 octets = nat_lt 0 (length octets) && (nat_lt (get_or octets 0 0) 0x80 && nat_lt (number_of octets) (2 ^ 32))

-- 0, or -1 where the highest bit is set
abbrev pub sign_of : List ℕ → ℤ
sign_of octets = if nat_lt (get_or octets 0 0) 0x80 then pos 0 else negsuc 0

-- the octets of a number that is not negative, with 00 in front where their first bit is set
abbrev pub unsigned_octets : List ℕ → List ℕ
unsigned_octets octets = if nat_lt (get_or octets 0 0) 0x80 then octets else 0x00 ∷ octets
