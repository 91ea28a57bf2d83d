use Rattle.std.proofs.Common.{◌≡◌, ℕ, ◌-◌, List, map}
use Rattle.krb_aes.specs.Aes.{state_after}
use Rattle.krb_aes.specs.Tower.{tower}
use Rattle.krb_aes.specs.RoundKeys.{AreEncryptionKeys}
use Rattle.krb_aes.proofs.encryption.encrypted_two.Given as goal

abbrev pub invariant-loop-round : goal.invariant-loop-round
invariant-loop-round l =
    ((words : List ℕ) → AreEncryptionKeys l.keys words l.rounds → l.v ≡ map tower (state_after words l.fn.block (l.round - 1)))
    × ((words : List ℕ) → AreEncryptionKeys l.keys words l.rounds → l.w ≡ map tower (state_after words l.fn.other (l.round - 1)))
