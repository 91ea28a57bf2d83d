use Rattle.std.proofs.Common.{arith}
use Rattle.krb_der.proofs.Outcome.{Reads-found, Reads-none}
use Rattle.krb_der.proofs.Field.{alone_none, alone_reads}
use Rattle.krb_der.proofs.asn1.only.Goals as goal

pub returns-in_err-contents-clause-shape : goal.returns-in_err-contents-clause-shape
returns-in_err-contents-clause-shape g c = λ is. alone_none g.T.Asn1.layout.kind c.tag.result c.tag.ensures c.args.octets.now g.T.Asn1.layout.ascends c.in_err-contents.ensures

pub returns-clause-found : goal.returns-clause-found
returns-clause-found g c =
    let layout = g.T.Asn1.layout in
    let read = alone_reads layout c.from_contents.result c.tag.result c.args.octets.now c.in_ok-contents.contents.now c.tag.ensures c.in_ok-contents.ensures c.from_contents.ensures in
    Reads-found layout c.from_contents.result c.args.octets.now (λ i. omega (arith, c.type_inv.octets i)) read

pub returns-clause-shape : goal.returns-clause-shape
returns-clause-shape g c =
    let layout = g.T.Asn1.layout in
    let read = alone_reads layout c.from_contents.result c.tag.result c.args.octets.now c.in_ok-contents.contents.now c.tag.ensures c.in_ok-contents.ensures c.from_contents.ensures in
    Reads-none layout c.from_contents.result c.args.octets.now read
