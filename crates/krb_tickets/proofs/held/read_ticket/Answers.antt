use Rattle.krb_messages.specs.Layouts.{ticket_layout}
use Rattle.krb_tickets.proofs.Names.{read_fits}
use Rattle.krb_tickets.proofs.held.read_ticket.Goals as goal

pub returns-clause-fits : goal.returns-clause-fits
returns-clause-fits c = read_fits ticket_layout c.args.octets.now c.read_or.result c.read_or.ensures c.in_ok-check_short.ensures.short
