-- The values that a derived key is made from.
use Rattle.std.specs.Prelude.{ℕ, List}
use Rattle.krb_crypto.specs.declared.suite.CipherSuite.{CipherSuite}
use Rattle.krb_crypto.specs.Suite.{kc}

pub record Origin : Type 0 where
  pub suite : CipherSuite
  pub key : List ℕ
  pub usage : ℕ

abbrev pub origin : CipherSuite → List ℕ → ℕ → Origin
origin suite key usage = record { suite = suite; key = key; usage = usage }

-- the key of checksums alone that is made from these
abbrev pub checksum_key_of : Origin → List ℕ
checksum_key_of o = kc o.suite o.key o.usage
