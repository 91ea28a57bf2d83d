use Rattle.krb_der.proofs.Progress.{begun, then, completed}
use Rattle.krb_exchange.specs.Table.{last_req_entry}
use Rattle.krb_exchange.specs.Layouts.{last_req_entry_row}
use Rattle.krb_exchange.proofs.enc_kdc_rep_part.LastReqEntryAsn1.to_contents.Goals as goal

pub returns : goal.returns
unfolding last_req_entry last_req_entry_row
returns c =
    completed c.finish.result
    (then (then (begun _ (last_req_entry_row c.args.self.now) c.new-fields.ensures)
    c.required.ensures)
    c.required-2.ensures)
    c.finish.ensures
