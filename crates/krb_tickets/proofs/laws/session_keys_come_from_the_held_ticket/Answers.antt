use Rattle.krb_tickets.proofs.Chains.{begins, shows, goes_on, ends}
use Rattle.krb_tickets.proofs.laws.session_keys_come_from_the_held_ticket.Goals as goal

pub returns : goal.returns
returns c = record { shows = shows; begins = begins; goes_on = goes_on; ends = ends }
