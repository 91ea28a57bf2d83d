use Rattle.krb_der.proofs.Progress.{begun, then, completed_in, short}
use Rattle.krb_messages.specs.Table.{ticket}
use Rattle.krb_messages.specs.Layouts.{ticket_row}
use Rattle.krb_messages.proofs.ticket.TicketAsn1.to_contents.Goals as goal

pub finish_application-requires : goal.finish_application-requires
unfolding ticket ticket_row
finish_application-requires c =
    short
    (then (then (then (then (begun _ (ticket_row c.args.self.now) c.new-fields.ensures)
    c.required.ensures)
    c.required-2.ensures)
    c.required-3.ensures)
    c.required-4.ensures)
    c.requires.0

pub returns : goal.returns
unfolding ticket ticket_row
returns c =
    completed_in c.finish_application.result
    (then (then (then (then (begun _ (ticket_row c.args.self.now) c.new-fields.ensures)
    c.required.ensures)
    c.required-2.ensures)
    c.required-3.ensures)
    c.required-4.ensures)
    c.finish_application.ensures
