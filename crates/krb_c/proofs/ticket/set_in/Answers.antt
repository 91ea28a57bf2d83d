use Rattle.krb_c.proofs.TicketLemmas.{ticket_refused, holder_refused}
use Rattle.krb_c.proofs.ticket.set_in.Goals as goal

pub returns-in-Ok-clause-refused : goal.returns-in-Ok-clause-refused
returns-in-Ok-clause-refused c = holder_refused _ c.in-Ok.held c.set_ticket.result c.in-Ok.ensures c.set_ticket.ensures.refused

pub returns-in-Err-clause-refused : goal.returns-in-Err-clause-refused
returns-in-Err-clause-refused c = ticket_refused _ c.in-Err.cause c.from.result c.in-Err.ensures c.from.ensures
