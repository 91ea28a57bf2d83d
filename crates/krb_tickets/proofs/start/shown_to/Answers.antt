use Rattle.krb_tickets.proofs.start.shown_to.Goals as goal

pub returns : goal.returns
returns c = rw c.in_ok-home.ensures at c.show_ticket.ensures.step
