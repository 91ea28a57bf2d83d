use Rattle.std.proofs.Common.{arith, refl}
use Rattle.krb_der.specs.Schema.{time}
use Rattle.krb_der.proofs.Outcome.{value_next, no_value_next}
use Rattle.krb_der.proofs.front.time_at.Goals as goal

pub returns-clause-found : goal.returns-clause-found
returns-clause-found c = value_next time (λ x. (x.0, x.1.now)) c.args.octets.now c.time_contents.result (λ i. omega (arith, c.type_inv.octets i)) c.time_contents.ensures.exact

pub returns-clause-none : goal.returns-clause-none
returns-clause-none c = no_value_next time (λ x. (x.0, x.1.now)) c.args.octets.now c.time_contents.result refl c.time_contents.ensures.exact
