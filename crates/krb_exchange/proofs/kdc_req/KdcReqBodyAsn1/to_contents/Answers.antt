use Rattle.std.proofs.Common.{refl}
use Rattle.krb_der.proofs.Progress.{begun, then, then_optional, option_id, completed}
use Rattle.krb_exchange.specs.Table.{kdc_req_body}
use Rattle.krb_exchange.specs.Layouts.{kdc_req_body_row}
use Rattle.krb_exchange.proofs.kdc_req.KdcReqBodyAsn1.to_contents.Goals as goal

pub returns : goal.returns
unfolding kdc_req_body kdc_req_body_row
returns c =
    completed c.finish.result
    (then_optional (then_optional (then_optional (then (then (then_optional (
    then (then_optional (then_optional (then (then_optional (then (begun _ (kdc_req_body_row c.args.self.now) c.new-fields.ensures)
    c.required.ensures)
    refl c.optional.ensures)
    c.required-2.ensures)
    refl c.optional-2.ensures)
    (option_id c.args.self.now.from) c.optional-3.ensures)
    c.required-3.ensures)
    (option_id c.args.self.now.rtime) c.optional-4.ensures)
    c.required-4.ensures)
    c.required-5.ensures)
    refl c.optional-5.ensures)
    refl c.optional-6.ensures)
    refl c.optional-7.ensures)
    c.finish.ensures
