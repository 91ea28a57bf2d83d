use Rattle.krb_der.proofs.Progress.{begun, then, completed}
use Rattle.krb_exchange.specs.Table.{kerb_pa_pac_request}
use Rattle.krb_exchange.specs.Layouts.{kerb_pa_pac_request_row}
use Rattle.krb_exchange.proofs.pa_data.KerbPaPacRequestAsn1.to_contents.Goals as goal

pub returns : goal.returns
unfolding kerb_pa_pac_request kerb_pa_pac_request_row
returns c =
    completed c.finish.result
    (then (begun _ (kerb_pa_pac_request_row c.args.self.now) c.new-fields.ensures)
    c.required.ensures)
    c.finish.ensures
