use Rattle.krb_der.proofs.Progress.{begun, then, then_optional, option_id, completed}
use Rattle.krb_messages.specs.Table.{encrypted_data}
use Rattle.krb_messages.specs.Layouts.{encrypted_data_row}
use Rattle.krb_messages.proofs.encryption.EncryptedDataAsn1.to_contents.Goals as goal

pub returns : goal.returns
unfolding encrypted_data encrypted_data_row
returns c =
    completed c.finish.result
    (then (then_optional (then (begun _ (encrypted_data_row c.args.self.now) c.new-fields.ensures)
    c.required.ensures)
    (option_id c.args.self.now.kvno) c.optional.ensures)
    c.required-2.ensures)
    c.finish.ensures
