-- Numbers and parts of a list of octets.
use Rattle.std.specs.Prelude.{ℕ, ◌+◌, List, [], ◌∷◌, length, slice_index, slice_range, Bool, nat_le}
use Rattle.std.specs.Int.{from_le_bytes, w32}

-- the number of four octets at a place
abbrev pub word : List ℕ → ℕ → ℕ
word octets i =
    from_le_bytes w32 (slice_index octets i ∷ slice_index octets (i + 1) ∷ slice_index octets (i + 2) ∷ slice_index octets (i + 3) ∷ [])

-- whether `size` octets from `place` on lie inside
abbrev pub is_inside : List ℕ → ℕ → ℕ → Bool
is_inside octets place size = nat_le (place + size) (length octets)

abbrev pub part : List ℕ → ℕ → ℕ → List ℕ
part octets place size = slice_range octets place (place + size)
