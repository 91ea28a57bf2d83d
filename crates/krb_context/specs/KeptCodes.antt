-- The stored key of MIC tokens.
use Rattle.krb_crypto.specs.Suite.{key_octets}
use Rattle.krb_crypto.specs.Keyed.{IsHmacKeyOf}
use Rattle.krb_context.specs.Origins.{Origin, origin, checksum_key_of}
use Rattle.krb_context.specs.declared.kept.KeptCode.TheInside.{Inside}

-- the suite, key and usage that it was made from
abbrev pub origin_of : Inside → Origin
origin_of kept = origin kept.suite (key_octets kept.key) kept.usage

-- the digests are of the key that is made from these
pub record IsKeptCode (kept : Inside) : Type 0 where
  pub code : IsHmacKeyOf (checksum_key_of (origin_of kept)) kept.code
