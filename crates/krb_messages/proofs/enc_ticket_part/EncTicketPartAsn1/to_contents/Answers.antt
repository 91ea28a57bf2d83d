use Rattle.std.proofs.Common.{refl}
use Rattle.krb_der.proofs.Progress.{begun, then, then_optional, option_id, completed_in, short}
use Rattle.krb_messages.specs.Table.{enc_ticket_part}
use Rattle.krb_messages.specs.Layouts.{enc_ticket_part_row}
use Rattle.krb_messages.proofs.enc_ticket_part.EncTicketPartAsn1.to_contents.Goals as goal

pub finish_application-requires : goal.finish_application-requires
unfolding enc_ticket_part enc_ticket_part_row
finish_application-requires c =
    short
    (then_optional (then_optional (then_optional (then (then_optional (then (then (then (then (then (then (begun _ (enc_ticket_part_row c.args.self.now) c.new-fields.ensures)
    c.required.ensures)
    c.required-2.ensures)
    c.required-3.ensures)
    c.required-4.ensures)
    c.required-5.ensures)
    c.required-6.ensures)
    (option_id c.args.self.now.starttime) c.optional.ensures)
    c.required-7.ensures)
    (option_id c.args.self.now.renew_till) c.optional-2.ensures)
    refl c.optional-3.ensures)
    refl c.optional-4.ensures)
    c.requires.0

pub returns : goal.returns
unfolding enc_ticket_part enc_ticket_part_row
returns c =
    completed_in c.finish_application.result
    (then_optional (then_optional (then_optional (then (then_optional (then (then (then (then (then (then (begun _ (enc_ticket_part_row c.args.self.now) c.new-fields.ensures)
    c.required.ensures)
    c.required-2.ensures)
    c.required-3.ensures)
    c.required-4.ensures)
    c.required-5.ensures)
    c.required-6.ensures)
    (option_id c.args.self.now.starttime) c.optional.ensures)
    c.required-7.ensures)
    (option_id c.args.self.now.renew_till) c.optional-2.ensures)
    refl c.optional-3.ensures)
    refl c.optional-4.ensures)
    c.finish_application.ensures
