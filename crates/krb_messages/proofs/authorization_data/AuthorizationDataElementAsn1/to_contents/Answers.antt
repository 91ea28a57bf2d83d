use Rattle.krb_der.proofs.Progress.{begun, then, completed}
use Rattle.krb_messages.specs.Table.{authorization_data_element}
use Rattle.krb_messages.specs.Layouts.{authorization_data_element_row}
use Rattle.krb_messages.proofs.authorization_data.AuthorizationDataElementAsn1.to_contents.Goals as goal

pub returns : goal.returns
unfolding authorization_data_element authorization_data_element_row
returns c =
    completed c.finish.result
    (then (then (begun _ (authorization_data_element_row c.args.self.now) c.new-fields.ensures)
    c.required.ensures)
    c.required-2.ensures)
    c.finish.ensures
