use Rattle.std.proofs.Common.{arith}
use Rattle.krb_context.proofs.AsciiLemmas.{not_all_ascii}
use Rattle.krb_requests.proofs.pieces.components.Goals as goal

pub returns-in_default : goal.returns-in_default
returns-in_default c =
    not_all_ascii (λ part. part.now) c.args.parts.now c.loop-part.part-index _ (omega arith) (rw c.in_default.is at c.in_ok-name.ensures)
