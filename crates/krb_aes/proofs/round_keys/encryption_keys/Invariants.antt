use Rattle.std.proofs.Common.{◌≡◌, ◌≤◌, ◌<◌, ℕ, [], length, map, slice_index_or}
use Rattle.krb_aes.specs.Round.{round_key}
use Rattle.krb_aes.specs.Word.{words_of}
use Rattle.krb_aes.specs.Tower.{tower, tower_key}
use Rattle.krb_aes.proofs.round_keys.encryption_keys.Given as goal

abbrev pub invariant-loop-round : goal.invariant-loop-round
invariant-loop-round l =
    (length l.keys ≡ 15) × (slice_index_or l.keys 0 [] ≡ map tower (round_key (words_of l.octets) 0))
    × ((r : ℕ) → 1 ≤ r → r < l.round → slice_index_or l.keys r [] ≡ map tower_key (round_key (words_of l.octets) r))
