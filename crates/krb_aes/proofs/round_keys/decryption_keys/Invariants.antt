use Rattle.std.proofs.Common.{◌≡◌, ◌≤◌, ◌<◌, ℕ, [], length, slice_index_or}
use Rattle.krb_aes.specs.Round.{round_key}
use Rattle.krb_aes.specs.Word.{words_of}
use Rattle.krb_aes.specs.RoundKeys.{IsDecryptionKey}
use Rattle.krb_aes.proofs.round_keys.decryption_keys.Given as goal

abbrev pub invariant-loop-round : goal.invariant-loop-round
invariant-loop-round l =
    (length l.keys ≡ 15) × (slice_index_or l.keys 0 [] ≡ round_key (words_of l.octets) 0)
    × ((r : ℕ) → 1 ≤ r → r < l.round → IsDecryptionKey (slice_index_or l.keys r []) (round_key (words_of l.octets) r))
