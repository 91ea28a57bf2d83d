use Rattle.std.proofs.Common.{sym, ap, ◌∙◌, arith}
use Rattle.krb_aes.specs.Round.{column_octets}
use Rattle.krb_aes.proofs.ScheduleLemmas.{four_words}
use Rattle.krb_aes.proofs.round_keys.octets_at.Goals as goal

pub returns : goal.returns
returns c = c.of_words.ensures ∙ ap column_octets (sym (four_words c.args.octets.now c.args.round (omega arith)))
