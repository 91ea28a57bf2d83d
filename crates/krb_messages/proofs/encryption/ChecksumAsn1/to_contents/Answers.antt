use Rattle.krb_der.proofs.Progress.{begun, then, completed}
use Rattle.krb_messages.specs.Table.{checksum}
use Rattle.krb_messages.specs.Layouts.{checksum_row}
use Rattle.krb_messages.proofs.encryption.ChecksumAsn1.to_contents.Goals as goal

pub returns : goal.returns
unfolding checksum checksum_row
returns c =
    completed c.finish.result
    (then (then (begun _ (checksum_row c.args.self.now) c.new-fields.ensures)
    c.required.ensures)
    c.required-2.ensures)
    c.finish.ensures
