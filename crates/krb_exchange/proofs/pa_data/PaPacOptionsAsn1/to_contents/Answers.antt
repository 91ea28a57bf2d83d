use Rattle.krb_der.proofs.Progress.{begun, then, completed}
use Rattle.krb_exchange.specs.Table.{pa_pac_options}
use Rattle.krb_exchange.specs.Layouts.{pa_pac_options_row}
use Rattle.krb_exchange.proofs.pa_data.PaPacOptionsAsn1.to_contents.Goals as goal

pub returns : goal.returns
unfolding pa_pac_options pa_pac_options_row
returns c =
    completed c.finish.result
    (then (begun _ (pa_pac_options_row c.args.self.now) c.new-fields.ensures)
    c.required.ensures)
    c.finish.ensures
