-- How far the blocks of a CBC are decrypted in place.
use Rattle.std.specs.Prelude.{◌≡◌, ℕ, ◌*◌, List, length, take, drop}
use Rattle.krb_aes.specs.Aes.{Undoes}
use Rattle.krb_aes.specs.declared.schedule.DecryptionSchedule.{DecryptionSchedule}
use Rattle.krb_crypto.specs.Cts.{cipher_block, cbc}

-- what a text that begins as this one becomes
pub record BeginsAs (E : List ℕ → List ℕ) (t previous q : List ℕ) (i : ℕ) : Type 0 where
  pub blocks : cbc E q i ≡ take (16 * i) t
  pub chained : cipher_block E q i ≡ previous

-- the first i blocks of t are opened: each text that begins as these begins, under E, as t; the others are as in t
pub record IsDecryptedTo (E : List ℕ → List ℕ) (t text previous : List ℕ) (i : ℕ) : Type 0 where
  pub size : length text ≡ length t
  pub width : length previous ≡ 16
  pub back : drop (16 * i) text ≡ drop (16 * i) t
  pub begins : (q : List ℕ) → take (16 * i) q ≡ take (16 * i) text → BeginsAs E t previous q i

-- the same under each cipher that a schedule undoes
pub record AreOpened (s : DecryptionSchedule) (t text previous : List ℕ) (i : ℕ) : Type 0 where
  pub under : (E : List ℕ → List ℕ) → Undoes E s → IsDecryptedTo E t text previous i
