-- The decryption of a sealed body.
use Rattle.std.specs.Prelude.{◌≡◌, ℕ, ◌+◌, ◌-◌, ◌<◌, ◌≤◌, List, length, take, drop, slice_index}
use Rattle.krb_aes.specs.Aes.{aes}
use Rattle.krb_crypto.specs.Cts.{cts}
use Rattle.krb_crypto.specs.SealingPair.{SealingPair}
use Rattle.sspi_core.specs.Buffer.{Buffer}
use Rattle.krb_context.specs.Spelt.{covered_code}

-- these octets are the decryption of all but the last 12
pub record IsDecrypted (keys : SealingPair) (ec : ℕ) (whole text : List ℕ) : Type 0 where
  pub long : 44 + ec ≤ length whole
  pub size : length text + 12 ≡ length whole
  pub opened : cts (aes keys.encryption) text ≡ take (length text) whole
  pub octets : (k : ℕ) → slice_index text k < 256

-- the last 12 octets are the checksum of the text, in which ec octets and a copy of a header follow the plain text
abbrev pub HasCode : SealingPair → ℕ → List Buffer → List ℕ → List ℕ → Type 0
HasCode keys ec buffers whole text = covered_code keys.integrity buffers text (length text - 16 - ec) ≡ drop (length text) whole
