use Rattle.krb_der.proofs.Field.{NoneNext-field, Field-found, Field-none}
use Rattle.krb_der.proofs.fields.required_value.Goals as goal

pub returns-in_err-field-clause-shape : goal.returns-in_err-field-clause-shape
returns-in_err-field-clause-shape g c = λ is. NoneNext-field c.args.n g.T.Asn1.layout.kind c.args.fields.now c.in_err-field.ensures.none

pub returns-clause-found : goal.returns-clause-found
returns-clause-found g c = Field-found g.T.Asn1.layout c.args.n c.in_ok-field.field.now c.args.fields.now c.tlv.new.self c.in_ok-field.ensures.found c.only.result c.only.ensures.found

pub returns-clause-shape : goal.returns-clause-shape
returns-clause-shape g c = Field-none g.T.Asn1.layout c.args.n c.in_ok-field.field.now c.args.fields.now c.tlv.new.self c.in_ok-field.ensures.found c.only.result c.only.ensures.shape
