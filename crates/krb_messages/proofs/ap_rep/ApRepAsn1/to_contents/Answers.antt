use Rattle.krb_der.proofs.Progress.{begun, then, completed_in, short}
use Rattle.krb_messages.specs.Table.{ap_rep}
use Rattle.krb_messages.specs.Layouts.{ap_rep_row}
use Rattle.krb_messages.proofs.ap_rep.ApRepAsn1.to_contents.Goals as goal

pub finish_application-requires : goal.finish_application-requires
unfolding ap_rep ap_rep_row
finish_application-requires c =
    short
    (then (then (then (begun _ (ap_rep_row c.args.self.now) c.new-fields.ensures)
    c.required.ensures)
    c.required-2.ensures)
    c.required-3.ensures)
    c.requires.0

pub returns : goal.returns
unfolding ap_rep ap_rep_row
returns c =
    completed_in c.finish_application.result
    (then (then (then (begun _ (ap_rep_row c.args.self.now) c.new-fields.ensures)
    c.required.ensures)
    c.required-2.ensures)
    c.required-3.ensures)
    c.finish_application.ensures
