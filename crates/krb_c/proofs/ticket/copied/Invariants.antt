use Rattle.std.proofs.Common.{◌≡◌, take}
use Rattle.std.specs.Prelude.{map}
use Rattle.krb_c.proofs.ticket.copied.Given as goal

abbrev pub invariant-loop-part : goal.invariant-loop-part
invariant-loop-part l = l.components.items ≡ map (λ part. part.now) (take l.part-index l.parts)
