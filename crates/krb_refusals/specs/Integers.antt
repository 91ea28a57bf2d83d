-- The shortest octets of an INTEGER (X.690, section 8.3.2).
use Rattle.std.specs.Prelude.{◌≡◌, ℕ, ◌/◌, ◌%◌, ◌<◌, ◌≤◌, List, [], ◌∷◌, length, get_or, nat_lt, if◌then◌else◌}

-- there are octets, and where there is more than one, the first nine bits are neither all 0 nor all 1
pub record IsShortest (octets : List ℕ) : Type 0 where
  pub some : 0 < length octets
  pub no_zeros : 1 < length octets → get_or octets 0 0 ≡ 0 → 0x80 ≤ get_or octets 1 0
  pub no_ones : 1 < length octets → get_or octets 0 0 ≡ 0xff → get_or octets 1 0 < 0x80

-- the octets of a number under 2^23
unfoldable pub shortest : ℕ → List ℕ
shortest n =
    if nat_lt n 0x80 then n ∷ [] else
    if nat_lt n 0x8000 then n / 0x100 ∷ n % 0x100 ∷ [] else
    n / 0x1_0000 ∷ n / 0x100 % 0x100 ∷ n % 0x100 ∷ []
