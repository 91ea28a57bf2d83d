use Rattle.std.proofs.Common.{sym, ap, ◌∙◌, arith}
use Rattle.std.specs.Prelude.{ℕ, List}
use Rattle.krb_der.specs.Schema.{is_ascii}
use Rattle.krb_context.proofs.AsciiLemmas.{not_all_ascii, each_ascii}
use Rattle.krb_requests.proofs.pieces.all_ascii.Goals as goal

pub returns-then-not-is_ascii : goal.returns-then-not-is_ascii
returns-then-not-is_ascii c =
    sym
    (not_all_ascii (λ part. part.now) c.args.parts.now c.loop-part.part-index _ (omega arith)
    (ap (λ (o : List ℕ). is_ascii o) (sym c.as_bytes.ensures.value) ∙ sym c.is_ascii.ensures ∙ c.if-not-is_ascii.true))

pub returns : goal.returns
returns c = sym (each_ascii (λ part. part.now) c.args.parts.now c.loop-part.part-index (omega arith) c.loop-part.invariant)
