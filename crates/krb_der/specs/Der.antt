-- DER values as whole lists of octets (X.690 8.1 and 10.1), with single tag octets and definite lengths under 2^31.
use Rattle.std.specs.Prelude.{◌≡◌, ℕ, ◌/◌, ◌%◌, ◌^◌, ◌<◌, List, [], ◌∷◌, ◌++◌, length, nat_lt, if◌then◌else◌}

-- the shortest length octets of a length under 2^32 (X.690 8.1.3.4, 8.1.3.5 and 10.1)
unfoldable pub length_octets : ℕ → List ℕ
length_octets n =
    if nat_lt n 0x80 then n ∷ [] else
    if nat_lt n 0x100 then 0x81 ∷ n ∷ [] else
    if nat_lt n 0x1_0000 then 0x82 ∷ n / 0x100 ∷ n % 0x100 ∷ [] else
    if nat_lt n 0x100_0000 then 0x83 ∷ n / 0x1_0000 ∷ n / 0x100 % 0x100 ∷ n % 0x100 ∷ [] else
    0x84 ∷ n / 0x100_0000 ∷ n / 0x1_0000 % 0x100 ∷ n / 0x100 % 0x100 ∷ n % 0x100 ∷ []

-- the octets of the value with these contents
unfoldable pub tlv : ℕ → List ℕ → List ℕ
tlv tag contents = tag ∷ (length_octets (length contents) ++ contents)

-- the octets are the value of this tag with these contents
pub record IsValue (tag : ℕ) (contents octets : List ℕ) : Type 0 where
  pub short : length contents < 2 ^ 31
  pub is : octets ≡ tlv tag contents

-- The value of this tag with these contents is at the front of the octets, and rest follows it.
pub record StandsNext (tag : ℕ) (contents octets rest : List ℕ) : Type 0 where
  pub value : List ℕ
  pub is_value : IsValue tag contents value
  pub parts : octets ≡ value ++ rest

-- No value of this tag is at the front.
abbrev pub NoneNext : ℕ → List ℕ → Type 0
NoneNext tag octets = (contents rest : List ℕ) → StandsNext tag contents octets rest → ⊥
