use Rattle.krb_der.proofs.Progress.{begun, then, then_seen, items_id, completed}
use Rattle.krb_messages.specs.Table.{principal_name}
use Rattle.krb_messages.specs.Layouts.{principal_name_row}
use Rattle.krb_messages.proofs.principal_name.PrincipalNameAsn1.to_contents.Goals as goal

pub returns : goal.returns
unfolding principal_name principal_name_row
returns c =
    completed c.finish.result
    (then_seen (then (begun _ (principal_name_row c.args.self.now) c.new-fields.ensures)
    c.required.ensures)
    (items_id c.args.self.now.name_string) c.required-2.ensures)
    c.finish.ensures
