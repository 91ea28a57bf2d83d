use Rattle.krb_der.proofs.Progress.{begun, then, completed}
use Rattle.krb_exchange.specs.Table.{tgt_req}
use Rattle.krb_exchange.specs.Layouts.{tgt_req_row}
use Rattle.krb_exchange.proofs.user_to_user.TgtReqAsn1.to_contents.Goals as goal

pub returns : goal.returns
unfolding tgt_req tgt_req_row
returns c =
    completed c.finish.result
    (then (then (then (begun _ (tgt_req_row c.args.self.now) c.new-fields.ensures)
    c.required.ensures)
    c.required-2.ensures)
    c.required-3.ensures)
    c.finish.ensures
