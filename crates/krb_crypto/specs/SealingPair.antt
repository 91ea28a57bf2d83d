-- The two keys of sealed texts of one usage (RFC 3961, section 5.3).
use Rattle.std.specs.Prelude.{ℕ, List}
use Rattle.krb_crypto.specs.Suite.{ke, ki}
use Rattle.krb_crypto.specs.declared.suite.CipherSuite.{CipherSuite}

pub record SealingPair : Type 0 where
  pub encryption : List ℕ
  pub integrity : List ℕ

-- those of a suite, a key and a usage
abbrev pub sealing_pair : CipherSuite → List ℕ → ℕ → SealingPair
sealing_pair suite key usage = record { encryption = ke suite key usage; integrity = ki suite key usage }
