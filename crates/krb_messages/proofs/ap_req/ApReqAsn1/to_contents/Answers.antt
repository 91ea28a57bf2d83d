use Rattle.krb_der.proofs.Progress.{begun, then, completed_in, short}
use Rattle.krb_messages.specs.Table.{ap_req}
use Rattle.krb_messages.specs.Layouts.{ap_req_row}
use Rattle.krb_messages.proofs.ap_req.ApReqAsn1.to_contents.Goals as goal

pub finish_application-requires : goal.finish_application-requires
unfolding ap_req ap_req_row
finish_application-requires c =
    short
    (then (then (then (then (then (begun _ (ap_req_row c.args.self.now) c.new-fields.ensures)
    c.required.ensures)
    c.required-2.ensures)
    c.required-3.ensures)
    c.required-4.ensures)
    c.required-5.ensures)
    c.requires.0

pub returns : goal.returns
unfolding ap_req ap_req_row
returns c =
    completed_in c.finish_application.result
    (then (then (then (then (then (begun _ (ap_req_row c.args.self.now) c.new-fields.ensures)
    c.required.ensures)
    c.required-2.ensures)
    c.required-3.ensures)
    c.required-4.ensures)
    c.required-5.ensures)
    c.finish_application.ensures
