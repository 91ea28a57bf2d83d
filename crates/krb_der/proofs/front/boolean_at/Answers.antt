use Rattle.std.proofs.Common.{arith, refl}
use Rattle.krb_der.specs.Schema.{boolean}
use Rattle.krb_der.proofs.Outcome.{value_next, no_value_next}
use Rattle.krb_der.proofs.front.boolean_at.Goals as goal

pub returns-clause-found : goal.returns-clause-found
returns-clause-found c = value_next boolean (λ x. (x.0, x.1.now)) c.args.octets.now c.boolean_contents.result (λ i. omega (arith, c.type_inv.octets i)) c.boolean_contents.ensures

pub returns-clause-none : goal.returns-clause-none
returns-clause-none c = no_value_next boolean (λ x. (x.0, x.1.now)) c.args.octets.now c.boolean_contents.result refl c.boolean_contents.ensures
