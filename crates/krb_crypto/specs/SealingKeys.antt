-- The contents of a sealing key.
use Rattle.krb_aes.specs.Aes.{IsScheduleOf}
use Rattle.krb_crypto.specs.Suite.{key_octets}
use Rattle.krb_crypto.specs.Keyed.{IsHmacKeyOf}
use Rattle.krb_crypto.specs.SealingPair.{SealingPair}
use Rattle.krb_crypto.specs.declared.sealing_key.SealingKey.TheInside.{Inside}

-- the two keys
abbrev pub pair_of : Inside → SealingPair
pair_of kept = record { encryption = key_octets kept.encryption; integrity = key_octets kept.integrity }

-- the schedule and the digests are of these keys
pub record IsKept (kept : Inside) : Type 0 where
  pub schedule : IsScheduleOf (key_octets kept.encryption) kept.schedule
  pub hmac : IsHmacKeyOf (key_octets kept.integrity) kept.hmac
