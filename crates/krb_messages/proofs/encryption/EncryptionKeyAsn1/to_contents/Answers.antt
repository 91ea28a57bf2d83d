use Rattle.krb_der.proofs.Progress.{begun, then, completed}
use Rattle.krb_messages.specs.Table.{encryption_key}
use Rattle.krb_messages.specs.Layouts.{encryption_key_row}
use Rattle.krb_messages.proofs.encryption.EncryptionKeyAsn1.to_contents.Goals as goal

pub returns : goal.returns
unfolding encryption_key encryption_key_row
returns c =
    completed c.finish.result
    (then (then (begun _ (encryption_key_row c.args.self.now) c.new-fields.ensures)
    c.required.ensures)
    c.required-2.ensures)
    c.finish.ensures
