use Rattle.krb_der.proofs.Progress.{begun, then, completed}
use Rattle.krb_exchange.specs.Table.{tgt_rep}
use Rattle.krb_exchange.specs.Layouts.{tgt_rep_row}
use Rattle.krb_exchange.proofs.user_to_user.TgtRepAsn1.to_contents.Goals as goal

pub returns : goal.returns
unfolding tgt_rep tgt_rep_row
returns c =
    completed c.finish.result
    (then (then (then (begun _ (tgt_rep_row c.args.self.now) c.new-fields.ensures)
    c.required.ensures)
    c.required-2.ensures)
    c.required-3.ensures)
    c.finish.ensures
