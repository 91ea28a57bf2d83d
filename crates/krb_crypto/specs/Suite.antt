-- The cipher suites and their derived keys (RFC 3961, section 5.1; RFC 3962, section 6).
use Rattle.std.specs.Prelude.{◌≡◌, ◌≢◌, ℕ, zero, suc, ◌/◌, ◌==◌, ℤ, pos, ◌<◌, List, [], ◌∷◌, ◌++◌, length, slice_index, Option, Some, None, if◌then◌else◌, Result, MatchResult}
use Rattle.std.specs.Ordering.{int_eq}
use Rattle.std.specs.Int.{w32, w128, to_be_bytes}
use Rattle.krb_aes.specs.Aes.{aes}
use Rattle.krb_crypto.specs.Fold.{n_fold}
use Rattle.krb_crypto.specs.declared.suite.CipherSuite.{CipherSuite}
use Rattle.krb_crypto.specs.declared.suite.CipherSuite.TheVariants.{Aes128CtsHmacSha196, Aes256CtsHmacSha196}
use Rattle.krb_crypto.specs.declared.suite.AesSize.{AesSize}
use Rattle.krb_crypto.specs.declared.suite.AesSize.TheVariants.{Aes128, Aes256}
use Rattle.krb_crypto.specs.declared.error.CryptoError.{CryptoError}
use Rattle.krb_crypto.specs.declared.error.CryptoError.TheVariants.{Etype}
use Rattle.krb_crypto.specs.declared.suite.DerivedKey.{DerivedKey}
use Rattle.krb_crypto.specs.declared.suite.DerivedKey.TheVariants.{Short, Long}

-- the etype of the suite (RFC 3962, section 7)
abbrev pub suite_number : CipherSuite → ℕ
suite_number Aes128CtsHmacSha196 = 17
suite_number Aes256CtsHmacSha196 = 18

-- the suite has this number, or no suite has it
abbrev pub HasNumber : ℤ → Result CipherSuite CryptoError → Type 0
HasNumber value answer = MatchResult answer (λ suite. value ≡ pos (suite_number suite))
    (λ e. (e ≡ Etype) × (value ≢ pos (suite_number Aes128CtsHmacSha196)) × (value ≢ pos (suite_number Aes256CtsHmacSha196)))

-- the suite that has this number, if there is one
abbrev pub suite_numbered : ℤ → Option CipherSuite
suite_numbered n =
    if int_eq n (pos (suite_number Aes128CtsHmacSha196)) then Some Aes128CtsHmacSha196
    else if int_eq n (pos (suite_number Aes256CtsHmacSha196)) then Some Aes256CtsHmacSha196
    else None

-- the suite of a number that one of the two has
abbrev pub suite_of_etype : ℕ → CipherSuite
suite_of_etype etype = if etype == suite_number Aes128CtsHmacSha196 then Aes128CtsHmacSha196 else Aes256CtsHmacSha196

-- the suite of the keys of this size
abbrev pub suite_of_size : AesSize → CipherSuite
suite_of_size Aes128 = Aes128CtsHmacSha196
suite_of_size Aes256 = Aes256CtsHmacSha196

-- how many octets a key of the suite has (RFC 3962, section 6)
abbrev pub key_size : CipherSuite → ℕ
key_size Aes128CtsHmacSha196 = 16
key_size Aes256CtsHmacSha196 = 32

-- the octets of a key
abbrev pub key_octets : DerivedKey → List ℕ
key_octets (Short octets) = octets
key_octets (Long octets) = octets

-- a constant of one block is itself; another is folded to a block (RFC 3961, section 5.1)
abbrev pub constant_block : List ℕ → List ℕ
constant_block constant = if length constant == 16 then constant else n_fold constant

-- a block under E, that under E, and so on: n blocks
unfoldable pub repeated : (List ℕ → List ℕ) → List ℕ → ℕ → List ℕ
repeated E block zero = []
repeated E block (suc n) = E block ++ repeated E (E block) n

-- DK(key, constant): as many octets as a key of the suite has (RFC 3961, section 5.1)
unfoldable pub dk : CipherSuite → List ℕ → List ℕ → List ℕ
dk suite key constant = repeated (aes key) (constant_block constant) (key_size suite / 16)

-- the usage in four octets, the highest first, and an octet, as a constant (RFC 3961, section 5.3)
abbrev pub usage_constant : ℕ → ℕ → List ℕ
usage_constant usage octet = to_be_bytes w32 usage ++ octet ∷ []

-- the constants of the usages 0 to 25 with this octet, folded, a number each
pub record AreFolds (octet : ℕ) (folds : List ℕ) : Type 0 where
  pub at : (usage : ℕ) → usage < 26 → to_be_bytes w128 (slice_index folds usage) ≡ n_fold (usage_constant usage octet)

-- Ke, the key of encryption
abbrev pub ke : CipherSuite → List ℕ → ℕ → List ℕ
ke suite key usage = dk suite key (usage_constant usage 0xaa)

-- Ki, the key of the checksum of a sealed text
abbrev pub ki : CipherSuite → List ℕ → ℕ → List ℕ
ki suite key usage = dk suite key (usage_constant usage 0x55)

-- Kc, the key of a checksum alone
abbrev pub kc : CipherSuite → List ℕ → ℕ → List ℕ
kc suite key usage = dk suite key (usage_constant usage 0x99)
