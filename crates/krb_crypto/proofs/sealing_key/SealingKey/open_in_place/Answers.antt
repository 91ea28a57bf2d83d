use Rattle.std.proofs.Common.{◌-◌, length, refl, arith}
use Rattle.std.proofs.lemmas.Bool.{both_ways}
use Rattle.krb_crypto.proofs.SealedLemmas.{revealed_is_sealed, not_sealed}
use Rattle.krb_crypto.proofs.sealing_key.SealingKey.open_in_place.Goals as goal

pub returns-then-reveal-clause-opened : goal.returns-then-reveal-clause-opened
returns-then-reveal-clause-opened c =
    revealed_is_sealed c.args.self.now c.args.text.now c.reveal.new.text (length c.args.text.now - 12) (omega arith) (omega arith)
    c.reveal.ensures.front (c.if-reveal.ensures.code.0 refl) c.reveal.ensures.octets

pub returns-clause-altered : goal.returns-clause-altered
returns-clause-altered c = λ e. (
  omega arith,
  not_sealed c.args.self.now c.args.text.now c.reveal.new.text (length c.args.text.now - 12) (omega arith) (omega arith) (omega arith)
      c.reveal.ensures.front (λ same. both_ways c.reveal.result c.if-reveal.false (c.reveal.ensures.code.1 same)) c.reveal.ensures.octets,
)
