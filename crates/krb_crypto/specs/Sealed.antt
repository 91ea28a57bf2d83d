-- Sealed texts (RFC 3962, section 6): the CTS of a confounder and the plain text, and 12 octets of their HMAC.
-- Nothing here decrypts: what is opened is the text whose encryption this is.
use Rattle.std.specs.Prelude.{◌≡◌, ℕ, List, ◌++◌, length}
use Rattle.krb_aes.specs.Octets.{IsOctets}
use Rattle.krb_aes.specs.Aes.{aes}
use Rattle.krb_crypto.specs.Cts.{cts}
use Rattle.krb_crypto.specs.Hmac.{hmac12}
use Rattle.krb_crypto.specs.SealingPair.{SealingPair, sealing_pair}
use Rattle.krb_crypto.specs.declared.suite.CipherSuite.{CipherSuite}

-- a text encrypted under the one key, and its code under the other
unfoldable pub sealed_text : SealingPair → List ℕ → List ℕ
sealed_text keys text = cts (aes keys.encryption) text ++ hmac12 keys.integrity text

-- the confounder and the plain text, sealed under the keys of a usage
abbrev pub sealed : CipherSuite → List ℕ → ℕ → List ℕ → List ℕ → List ℕ
sealed suite key usage confounder plain = sealed_text (sealing_pair suite key usage) (confounder ++ plain)

-- this is the plain text, sealed with some confounder of 16 octets
pub record IsSealedUnder (keys : SealingPair) (text plain : List ℕ) : Type 0 where
  pub confounder : List ℕ
  pub size : length confounder ≡ 16
  pub octets : IsOctets (confounder ++ plain)
  pub is : sealed_text keys (confounder ++ plain) ≡ text

-- the same under the keys of a usage
abbrev pub IsSealed : CipherSuite → List ℕ → ℕ → List ℕ → List ℕ → Type 0
IsSealed suite key usage text plain = IsSealedUnder (sealing_pair suite key usage) text plain
