use Rattle.krb_der.proofs.Field.{NoneNext-value, Next-found, Next-none}
use Rattle.krb_der.proofs.asn1.next.Goals as goal

pub returns-in_err-contents-clause-shape : goal.returns-in_err-contents-clause-shape
returns-in_err-contents-clause-shape g c = λ is. NoneNext-value g.T.Asn1.layout.kind c.tag.result c.tag.ensures c.args.reader.now c.in_err-contents.ensures.none

pub returns-clause-found : goal.returns-clause-found
returns-clause-found g c = Next-found g.T.Asn1.layout c.tag.result c.in_ok-contents.contents.now c.args.reader.now c.tlv.new.self c.tag.ensures c.in_ok-contents.ensures.found c.of_contents.result c.of_contents.ensures.found

pub returns-clause-shape : goal.returns-clause-shape
returns-clause-shape g c = Next-none g.T.Asn1.layout c.tag.result c.in_ok-contents.contents.now c.args.reader.now c.tlv.new.self c.tag.ensures c.in_ok-contents.ensures.found c.of_contents.result c.of_contents.ensures.exact
