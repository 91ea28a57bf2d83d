use Rattle.krb_der.proofs.Progress.{begun, then, completed}
use Rattle.krb_messages.specs.Table.{host_address}
use Rattle.krb_messages.specs.Layouts.{host_address_row}
use Rattle.krb_messages.proofs.host_address.HostAddressAsn1.to_contents.Goals as goal

pub returns : goal.returns
unfolding host_address host_address_row
returns c =
    completed c.finish.result
    (then (then (begun _ (host_address_row c.args.self.now) c.new-fields.ensures)
    c.required.ensures)
    c.required-2.ensures)
    c.finish.ensures
