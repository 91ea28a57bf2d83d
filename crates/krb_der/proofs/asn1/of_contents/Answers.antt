use Rattle.std.proofs.Common.{arith}
use Rattle.krb_der.proofs.Field.{of_contents-found}
use Rattle.krb_der.proofs.asn1.of_contents.Goals as goal

pub returns-clause-found : goal.returns-clause-found
returns-clause-found g c = of_contents-found g.T.Asn1.layout c.from_contents.result c.args.octets.now (λ i. omega (arith, c.type_inv.octets i)) c.from_contents.ensures
