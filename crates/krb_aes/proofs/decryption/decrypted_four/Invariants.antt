use Rattle.std.proofs.Common.{◌≡◌, ℕ, ◌-◌, ◌<◌, List}
use Rattle.krb_aes.specs.Octets.{IsBlock, block_at}
use Rattle.krb_aes.specs.Aes.{state_after, cipher}
use Rattle.krb_aes.specs.InverseRound.{inverse_state}
use Rattle.krb_aes.specs.RoundKeys.{AreDecryptionKeys}
use Rattle.krb_aes.proofs.decryption.decrypted_four.Given as goal

-- each text whose state a block's lanes represent becomes that block
abbrev pub invariant-loop-round : goal.invariant-loop-round
invariant-loop-round l =
    ((i : ℕ) → i < 4 → (words : List ℕ) → AreDecryptionKeys l.keys words l.rounds → (b : List ℕ) → IsBlock b
    → inverse_state (state_after words b (l.rounds - l.round)) ≡ block_at i l.v → cipher l.rounds words b ≡ block_at i l.fn.blocks)
