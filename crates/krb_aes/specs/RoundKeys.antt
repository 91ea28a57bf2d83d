-- Round keys in the tower (FIPS 197, sections 5.1.4 and 5.3.5).
use Rattle.std.specs.Prelude.{◌≡◌, ℕ, ◌<◌, ◌≤◌, List, [], map, slice_index_or}
use Rattle.krb_aes.specs.Round.{mix_columns, round_key}
use Rattle.krb_aes.specs.Tower.{tower, tower_key, plain_key, affine_back, turned}

-- the keys of n rounds, of these words: the first and those between go into the tower, the last does not
pub record AreEncryptionKeys (keys : List (List ℕ)) (words : List ℕ) (n : ℕ) : Type 0 where
  pub first : slice_index_or keys 0 [] ≡ map tower (round_key words 0)
  pub middle : (r : ℕ) → 1 ≤ r → r < n → slice_index_or keys r [] ≡ map tower_key (round_key words r)
  pub last : slice_index_or keys n [] ≡ map plain_key (round_key words n)

-- MixColumns four times changes nothing, so three times undo it (5.3.3)
unfoldable pub inverse_mix_columns : List ℕ → List ℕ
inverse_mix_columns s = mix_columns (mix_columns (mix_columns s))

-- the key of a round of the inverse cipher: the round key through the inverse of MixColumns (5.3.5), in the tower
abbrev pub IsDecryptionKey : List ℕ → List ℕ → Type 0
IsDecryptionKey key round = key ≡ turned (map affine_back (inverse_mix_columns round))

-- the keys of the inverse cipher of n rounds: the first and those between go into the tower, the last does not
pub record AreDecryptionKeys (keys : List (List ℕ)) (words : List ℕ) (n : ℕ) : Type 0 where
  pub first : slice_index_or keys n [] ≡ map affine_back (round_key words n)
  pub middle : (r : ℕ) → 1 ≤ r → r < n → IsDecryptionKey (slice_index_or keys r []) (round_key words r)
  pub last : slice_index_or keys 0 [] ≡ round_key words 0
