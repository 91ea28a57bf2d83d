-- The header of a wrap token (RFC 4121, section 4.2.6.2), 16 octets.
use Rattle.std.specs.Prelude.{◌≡◌, ℕ, List, [], ◌∷◌, ◌++◌, length, take, drop, slice_index, Bool, not, ◌&&◌, ◌==◌, bit_and, if◌then◌else◌}
use Rattle.std.specs.Int.{w16, w64, to_be_bytes, from_be_bytes, w32}

unfoldable pub wrap_header : ℕ → ℕ → ℕ → ℕ → List ℕ
wrap_header flags ec rrc number =
    0x05 ∷ 0x04 ∷ flags ∷ 0xff ∷ [] ++ to_be_bytes w16 ec ++ to_be_bytes w16 rrc ++ to_be_bytes w64 number

-- the token id (05 04), and the `Filler` octet (ff)
abbrev pub is_wrap_header : List ℕ → Bool
is_wrap_header h = slice_index h 0 == 0x05 && slice_index h 1 == 0x04 && slice_index h 3 == 0xff

abbrev pub is_sealed : List ℕ → Bool
is_sealed h = not (bit_and (slice_index h 2) 2 == 0)

abbrev pub is_from_acceptor : List ℕ → Bool
is_from_acceptor h = not (bit_and (slice_index h 2) 1 == 0)

abbrev pub is_from : Bool → List ℕ → Bool
is_from acceptor h = if acceptor then is_from_acceptor h else not (is_from_acceptor h)

-- the extra count (EC): the octets of padding in a sealed token, of the checksum in a token in the clear
abbrev pub ec_of : List ℕ → ℕ
ec_of h = from_be_bytes w16 (slice_index h 4 ∷ slice_index h 5 ∷ [])

-- how far the body is turned to the right
abbrev pub rrc_of : List ℕ → ℕ
rrc_of h = from_be_bytes w16 (slice_index h 6 ∷ slice_index h 7 ∷ [])

abbrev pub number_of : List ℕ → ℕ
number_of h = from_be_bytes w32 (slice_index h 12 ∷ slice_index h 13 ∷ slice_index h 14 ∷ slice_index h 15 ∷ [])

-- the copies of a header that a sealed text may have
pub record IsCopyOf (h copy : List ℕ) : Type 0 where
  pub size : length copy ≡ 16
  pub front : take 6 copy ≡ take 6 h
  pub back : drop 8 copy ≡ drop 8 h

-- a header whose counts are zero
abbrev pub without_counts : List ℕ → List ℕ
without_counts h = take 4 h ++ 0 ∷ 0 ∷ 0 ∷ 0 ∷ drop 8 h
