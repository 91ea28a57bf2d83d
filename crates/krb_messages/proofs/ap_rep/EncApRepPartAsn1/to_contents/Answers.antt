use Rattle.std.proofs.Common.{refl}
use Rattle.krb_der.proofs.Progress.{begun, then, then_optional, option_id, completed_in, short}
use Rattle.krb_messages.specs.Table.{enc_ap_rep_part}
use Rattle.krb_messages.specs.Layouts.{enc_ap_rep_part_row}
use Rattle.krb_messages.proofs.ap_rep.EncApRepPartAsn1.to_contents.Goals as goal

pub finish_application-requires : goal.finish_application-requires
unfolding enc_ap_rep_part enc_ap_rep_part_row
finish_application-requires c =
    short
    (then_optional (then_optional (then (then (begun _ (enc_ap_rep_part_row c.args.self.now) c.new-fields.ensures)
    c.required.ensures)
    c.required-2.ensures)
    refl c.optional.ensures)
    (option_id c.args.self.now.seq_number) c.optional-2.ensures)
    c.requires.0

pub returns : goal.returns
unfolding enc_ap_rep_part enc_ap_rep_part_row
returns c =
    completed_in c.finish_application.result
    (then_optional (then_optional (then (then (begun _ (enc_ap_rep_part_row c.args.self.now) c.new-fields.ensures)
    c.required.ensures)
    c.required-2.ensures)
    refl c.optional.ensures)
    (option_id c.args.self.now.seq_number) c.optional-2.ensures)
    c.finish_application.ensures
