use Rattle.std.proofs.Common.{◌≡◌, ◌-◌, ◌*◌, ◌≤◌, length, take}
use Rattle.krb_aes.specs.Word.{words_of}
use Rattle.krb_aes.specs.Aes.{first_words, expanded}
use Rattle.krb_aes.proofs.expansion.round_keys.Given as goal

abbrev pub invariant-load : goal.invariant-load
invariant-load l = (length l.keys ≡ 15) × (take (4 * l.round) (words_of l.keys) ≡ first_words l.key (4 * l.round))

abbrev pub invariant-expand : goal.invariant-expand
invariant-expand l =
    (length l.keys ≡ 15) × (l.size ≤ l.round) × (take (4 * l.round) (words_of l.keys) ≡ expanded l.key (4 * l.size) (4 * l.round - 4 * l.size))
