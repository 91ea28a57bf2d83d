-- The principals of a credential cache as names of Kerberos (RFC 4120, section 5.2.2), and back.
use Rattle.std.specs.Prelude.{ℕ, suc, ◌-◌, ◌^◌, ◌||◌, ◌&&◌, Bool, ℤ, pos, negsuc, List, length, drop, Option, Some, None, Result, nat_lt, nat_le, if◌then◌else◌}
use Rattle.std.specs.Int.{w32, to_be_bytes}
use Rattle.std.specs.List.{list_all}
use Rattle.krb_der.specs.Integer.{integer_value}
use Rattle.krb_messages.specs.declared.principal_name.PrincipalName.{PrincipalName}
use Rattle.krb_context.specs.ServiceKeys.{all_ascii}
use Rattle.krb_requests.specs.Pieces.{name_of}
use Rattle.krb_ccache.specs.declared.principal.CcachePrincipal.{CcachePrincipal}
use Rattle.sspi_core.specs.declared.cause.Cause.{Cause}
use Rattle.sspi_core.specs.declared.cause.Cause.TheVariants.{Shape, NotAscii}
use Rattle.sspi_core.specs.Checks.{Holds, Takes, Gives, ◌>>=◌, ◌>>◌}

-- how many octets of a number of 32 bits, in two's complement, only repeat the sign of those after them
abbrev pub unused_octets : ℕ → ℕ
unused_octets number =
    if nat_lt number 0x80 || nat_le 0xffff_ff80 number then 3
    else (if nat_lt number 0x8000 || nat_le 0xffff_8000 number then 2
    else (if nat_lt number 0x80_0000 || nat_le 0xff80_0000 number then 1 else 0))

-- the type of a name, as the fewest octets of an INTEGER (X.690, section 8.3.2)
abbrev pub type_octets : ℕ → List ℕ
type_octets name_type = drop (unused_octets name_type) (to_be_bytes w32 name_type)

-- and back: as 32 bits in two's complement, and 0, which is no type, if it has more (RFC 4120, section 6.2)
abbrev pub type_in : ℤ → ℕ
type_in (pos n) = if nat_lt n (2 ^ 32) then n else 0
type_in (negsuc n) = if nat_lt n (2 ^ 31) then 2 ^ 32 - suc n else 0

abbrev pub type_number : List ℕ → ℕ
type_number octets = type_in (integer_value octets)

-- at most 256 components of at most 65,000 octets each, which are sent in less than 2^24
abbrev pub are_short : List (List ℕ) → Bool
are_short components = nat_le (length components) 256 && list_all (λ component. nat_le (length component) 65000) components

-- components that can be those of a name: all of ASCII
abbrev pub names_of : List (List ℕ) → Option (List (List ℕ))
names_of components = if all_ascii components then Some components else None

-- a realm of at most 2^24 octets, all of ASCII
unfoldable pub ReadsRealm : List ℕ → Result (List ℕ) Cause → Type 0
ReadsRealm realm = do
  Holds Shape (nat_le (length realm) 16777216)
  Takes NotAscii (name_of realm)

abbrev pub named : ℕ → List (List ℕ) → PrincipalName
named name_type components = record { name_type = type_octets name_type; name_string = components }

-- the name of a principal
unfoldable pub ReadsName : CcachePrincipal → Result PrincipalName Cause → Type 0
ReadsName principal = do
  Holds Shape (are_short principal.components)
  components ← Takes NotAscii (names_of principal.components)
  Gives (named principal.name_type components)

-- a name and its realm, as a cache has them
abbrev pub cache_principal : List ℕ → PrincipalName → CcachePrincipal
cache_principal realm name = record { name_type = type_number name.name_type; realm = realm; components = name.name_string }
