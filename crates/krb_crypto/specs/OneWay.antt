-- A schedule for one direction and the digests of a key, of the two keys of sealed texts.
use Rattle.krb_aes.specs.Aes.{aes, AreWordsOf, Undoes}
use Rattle.krb_aes.specs.declared.schedule.EncryptionSchedule.{EncryptionSchedule}
use Rattle.krb_aes.specs.declared.schedule.DecryptionSchedule.{DecryptionSchedule}
use Rattle.krb_crypto.specs.Keyed.{IsHmacKeyOf}
use Rattle.krb_crypto.specs.SealingPair.{SealingPair}
use Rattle.krb_crypto.specs.declared.hmac.HmacKey.{HmacKey}

-- those that seal are of these keys
pub record CanSeal (keys : SealingPair) (forward : EncryptionSchedule) (digests : HmacKey) : Type 0 where
  pub schedule : AreWordsOf keys.encryption forward
  pub hmac : IsHmacKeyOf keys.integrity digests

-- those that open are of these keys
pub record CanOpen (keys : SealingPair) (back : DecryptionSchedule) (digests : HmacKey) : Type 0 where
  pub schedule : Undoes (aes keys.encryption) back
  pub hmac : IsHmacKeyOf keys.integrity digests
