use Rattle.std.proofs.Common.{◌≡◌, ℕ, ◌-◌, List}
use Rattle.krb_aes.specs.Octets.{IsBlock}
use Rattle.krb_aes.specs.Aes.{state_after, cipher}
use Rattle.krb_aes.specs.InverseRound.{inverse_state}
use Rattle.krb_aes.specs.RoundKeys.{AreDecryptionKeys}
use Rattle.krb_aes.proofs.decryption.decrypted.Given as goal

-- each text whose state the lanes represent becomes the block
abbrev pub invariant-loop-round : goal.invariant-loop-round
invariant-loop-round l =
    (words : List ℕ) → AreDecryptionKeys l.keys words l.rounds → (b : List ℕ) → IsBlock b
    → inverse_state (state_after words b (l.rounds - l.round)) ≡ l.v → cipher l.rounds words b ≡ l.fn.block
