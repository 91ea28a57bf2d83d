-- Schedules for one direction, under their keys.
use Rattle.std.proofs.Common.{◌≡◌, ℕ, List, sym, ap, subst, ◌∙◌}
use Rattle.krb_aes.specs.Aes.{aes, forward_cipher, forward_of, block_cipher, AreWordsOf, Undoes}
use Rattle.krb_aes.specs.declared.schedule.EncryptionSchedule.{EncryptionSchedule}
use Rattle.krb_aes.specs.declared.schedule.DecryptionSchedule.{DecryptionSchedule}
use Rattle.krb_aes.proofs.CipherLemmas.{words-aes, block_cipher-aes}
use Rattle.krb_crypto.specs.Cts.{cts}
use Rattle.krb_crypto.specs.Keyed.{IsHmacKeyOf}
use Rattle.krb_crypto.specs.Suite.{key_octets, ke, ki}
use Rattle.krb_crypto.specs.declared.suite.CipherSuite.{CipherSuite}
use Rattle.krb_crypto.specs.declared.suite.DerivedKey.{DerivedKey}
use Rattle.krb_crypto.specs.declared.hmac.HmacKey.{HmacKey}
use Rattle.krb_crypto.specs.SealingPair.{SealingPair, sealing_pair}
use Rattle.krb_crypto.specs.SealingKeys.{pair_of, IsKept}
use Rattle.krb_crypto.specs.OneWay.{CanSeal, CanOpen}
use Rattle.krb_crypto.specs.declared.sealing_key.SealingKey.TheInside.{Inside}

-- the cipher under a schedule of a key, as a function
pub cts-forward : (key text : List ℕ) (s : EncryptionSchedule) → AreWordsOf key s → cts (forward_cipher s) text ≡ cts (aes key) text
cts-forward key text s of = ap (λ (E : List ℕ → List ℕ). cts E text) (λ i b. words-aes key b s of i)

-- the halves of a schedule that is kept
pub seals-kept : (inside : Inside) (keys : SealingPair) (s : EncryptionSchedule) → IsKept inside → pair_of inside ≡ keys
    → s ≡ forward_of inside.schedule → CanSeal keys s inside.hmac
seals-kept inside keys s kept view is =
    subst (λ (pair : SealingPair). CanSeal pair s inside.hmac) view
    (record { schedule = subst (AreWordsOf (key_octets inside.encryption)) (sym is) kept.schedule; hmac = kept.hmac })

pub opens-kept : (inside : Inside) (keys : SealingPair) (s : DecryptionSchedule) → IsKept inside → pair_of inside ≡ keys
    → Undoes (block_cipher inside.schedule) s → CanOpen keys s inside.hmac
opens-kept inside keys s kept view undoes =
    subst (λ (pair : SealingPair). CanOpen pair s inside.hmac) view
    (record {
      schedule = record {
        words = undoes.words;
        keys = undoes.keys;
        is = λ b. undoes.is b ∙ block_cipher-aes (key_octets inside.encryption) b inside.schedule kept.schedule;
      };
      hmac = kept.hmac;
    })

-- schedules and digests of keys that were derived
pub seals-derived : (suite : CipherSuite) (key : List ℕ) (usage : ℕ) (e i : DerivedKey) (es is : List ℕ) (s : EncryptionSchedule) (h : HmacKey)
    → key_octets e ≡ ke suite key usage → key_octets i ≡ ki suite key usage → es ≡ key_octets e → is ≡ key_octets i
    → AreWordsOf es s → IsHmacKeyOf is h → CanSeal (sealing_pair suite key usage) s h
seals-derived suite key usage e i es is s h ee ei e1 i1 of hmac = record {
  schedule = subst (λ (k : List ℕ). AreWordsOf k s) (e1 ∙ ee) of;
  hmac = subst (λ (k : List ℕ). IsHmacKeyOf k h) (i1 ∙ ei) hmac;
}

pub opens-derived : (suite : CipherSuite) (key : List ℕ) (usage : ℕ) (e i : DerivedKey) (es is : List ℕ) (s : DecryptionSchedule) (h : HmacKey)
    → key_octets e ≡ ke suite key usage → key_octets i ≡ ki suite key usage → es ≡ key_octets e → is ≡ key_octets i
    → Undoes (aes es) s → IsHmacKeyOf is h → CanOpen (sealing_pair suite key usage) s h
opens-derived suite key usage e i es is s h ee ei e1 i1 undoes hmac = record {
  schedule = subst (λ (k : List ℕ). Undoes (aes k) s) (e1 ∙ ee) undoes;
  hmac = subst (λ (k : List ℕ). IsHmacKeyOf k h) (i1 ∙ ei) hmac;
}
