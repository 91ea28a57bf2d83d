use Rattle.krb_der.proofs.Progress.{begun, then, completed}
use Rattle.krb_messages.specs.Table.{transited_encoding}
use Rattle.krb_messages.specs.Layouts.{transited_encoding_row}
use Rattle.krb_messages.proofs.enc_ticket_part.TransitedEncodingAsn1.to_contents.Goals as goal

pub returns : goal.returns
unfolding transited_encoding transited_encoding_row
returns c =
    completed c.finish.result
    (then (then (begun _ (transited_encoding_row c.args.self.now) c.new-fields.ensures)
    c.required.ensures)
    c.required-2.ensures)
    c.finish.ensures
