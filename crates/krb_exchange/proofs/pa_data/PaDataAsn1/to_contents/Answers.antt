use Rattle.krb_der.proofs.Progress.{begun, then, completed}
use Rattle.krb_exchange.specs.Table.{pa_data}
use Rattle.krb_exchange.specs.Layouts.{pa_data_row}
use Rattle.krb_exchange.proofs.pa_data.PaDataAsn1.to_contents.Goals as goal

pub returns : goal.returns
unfolding pa_data pa_data_row
returns c =
    completed c.finish.result
    (then (then (begun _ (pa_data_row c.args.self.now) c.new-fields.ensures)
    c.required.ensures)
    c.required-2.ensures)
    c.finish.ensures
