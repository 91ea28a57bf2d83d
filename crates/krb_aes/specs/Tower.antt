-- Octets in a tower of fields (M. Hamburg, Accelerating AES with Vector Permute Instructions, CHES 2009): k + i * t for two nibbles k
-- and i, the elements of a field of 16, where t * t + a * t + a is 0 and a is 2.
use Rattle.std.specs.Simd.Lanes.{pick_l}
use Rattle.std.specs.Prelude.{[], ◌∷◌, ◌++◌, ℕ, ◌*◌, ◌/◌, ◌%◌, List, bit_xor, slice_index, nat_lt, if◌then◌else◌}
use Rattle.std.specs.Int.{w8, rotate_left}

-- the octets of the tower for 1, 2, 4 and so on up to 80 hex of the field
abbrev pub tower_basis : List ℕ
tower_basis = 0x01 ∷ 0x37 ∷ 0xd0 ∷ 0xd2 ∷ 0xbb ∷ 0x7b ∷ 0xbf ∷ 0xc8 ∷ []

-- the sum of the octets whose bits are set in x; the first octet has the lowest bit
unfoldable pub sum_of_bits : List ℕ → ℕ → ℕ
sum_of_bits [] x = 0
sum_of_bits (b ∷ bs) x = bit_xor (x % 2 * b) (sum_of_bits bs (x / 2))

-- an octet of the field, in the tower
unfoldable pub tower : ℕ → ℕ
tower x = sum_of_bits tower_basis x

-- ---- the inverse of an octet, by its nibbles

-- the inverse of each nibble; 0 has no inverse, and its entry is a place with the top bit set
abbrev pub nibble_inverses : List ℕ
nibble_inverses = 0x80 ∷ 0x01 ∷ 0x08 ∷ 0x0d ∷ 0x0f ∷ 0x06 ∷ 0x05 ∷ 0x0e ∷ 0x02 ∷ 0x0c ∷ 0x0b ∷ 0x0a ∷ 0x09 ∷ 0x03 ∷ 0x07 ∷ 0x04 ∷ []

-- a over each nibble
abbrev pub nibble_quotients : List ℕ
nibble_quotients = 0x80 ∷ 0x02 ∷ 0x01 ∷ 0x0c ∷ 0x08 ∷ 0x0b ∷ 0x0d ∷ 0x0a ∷ 0x04 ∷ 0x0e ∷ 0x07 ∷ 0x05 ∷ 0x03 ∷ 0x06 ∷ 0x09 ∷ 0x0f ∷ []

-- an entry of a table of 16, 0 at a place with the top bit set
unfoldable pub entry : List ℕ → ℕ → ℕ
entry table j = if nat_lt j 128 then slice_index table (j % 16) else 0

-- the inverse of i plus the quotient of k
unfoldable pub sum_at : ℕ → ℕ → ℕ
sum_at i k = bit_xor (entry nibble_inverses i) (entry nibble_quotients k)

-- the two places where the tables of a linear function of the inverse are read
unfoldable pub first_quotient : ℕ → ℕ
first_quotient x = bit_xor (entry nibble_inverses (sum_at (x / 16) (x % 16))) (bit_xor (x / 16) (x % 16))

unfoldable pub second_quotient : ℕ → ℕ
second_quotient x = bit_xor (entry nibble_inverses (sum_at (bit_xor (x / 16) (x % 16)) (x % 16))) (x / 16)

-- a linear function of the inverse of x, by the tables of its two quotients
unfoldable pub pair_sum : List ℕ → List ℕ → ℕ → ℕ
pair_sum u t x = bit_xor (entry u (first_quotient x)) (entry t (second_quotient x))

-- ---- round keys

-- an octet of a round key: the S-box's constant goes with it
unfoldable pub tower_key : ℕ → ℕ
tower_key x = tower (bit_xor x 0x63)

-- an octet of the last round key, with the S-box's constant, out of the tower
unfoldable pub plain_key : ℕ → ℕ
plain_key x = bit_xor x 0x63

-- ---- decryption: an octet after SubBytes is in the tower without the affine form, as the inverse of the octet before SubBytes

-- the inverse of the affine form's linear part, into the tower
unfoldable pub linear_back : ℕ → ℕ
linear_back x = tower (bit_xor (bit_xor (rotate_left w8 x 1) (rotate_left w8 x 3)) (rotate_left w8 x 6))

-- an octet of the field times 2 (section 4.2), the octet and the product through linear_back: the octets for 1, 2, 4 and so on
unfoldable pub doubled_back : ℕ → ℕ
doubled_back y = sum_of_bits (0x37 ∷ 0x9a ∷ 0xb3 ∷ 0x36 ∷ 0x16 ∷ 0xd8 ∷ 0x19 ∷ 0xdd ∷ []) y

-- the inverse of the affine form, into the tower
unfoldable pub affine_back : ℕ → ℕ
affine_back x = linear_back (bit_xor x 0x63)

-- the octets of each column one row up
abbrev pub turned : List ℕ → List ℕ
turned v = pick_l 0 (v ++ v) (1 ∷ 2 ∷ 3 ∷ 0 ∷ 5 ∷ 6 ∷ 7 ∷ 4 ∷ 9 ∷ 10 ∷ 11 ∷ 8 ∷ 13 ∷ 14 ∷ 15 ∷ 12 ∷ [])

-- the rows moved back
abbrev pub unshifted : List ℕ → List ℕ
unshifted v = pick_l 0 (v ++ v) (0 ∷ 13 ∷ 10 ∷ 7 ∷ 4 ∷ 1 ∷ 14 ∷ 11 ∷ 8 ∷ 5 ∷ 2 ∷ 15 ∷ 12 ∷ 9 ∷ 6 ∷ 3 ∷ [])
