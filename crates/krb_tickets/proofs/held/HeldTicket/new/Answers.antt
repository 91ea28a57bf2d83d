use Rattle.krb_tickets.specs.Held.{HoldsTicket}
use Rattle.sspi_core.proofs.Chain.{goes, stops}
use Rattle.krb_tickets.proofs.held.HeldTicket.new.Goals as goal

pub returns-in_err-name : goal.returns-in_err-name
unfolding HoldsTicket
returns-in_err-name c = goes _ _ c.in_ok-realm.realm _ c.in_ok-realm.ensures.step (stops _ _ _ _ c.in_err-name.ensures.step c.from_residual-in_err-name.ensures.1)

pub returns-in_err-ticket : goal.returns-in_err-ticket
unfolding HoldsTicket
returns-in_err-ticket c =
    goes _ _ c.in_ok-realm.realm _ c.in_ok-realm.ensures.step
    (goes _ _ c.in_ok-name.name _ c.in_ok-name.ensures.step (stops _ _ _ _ c.in_err-ticket.ensures.step c.from_residual-in_err-ticket.ensures.1))

pub returns : goal.returns
unfolding HoldsTicket
returns c =
    goes _ _ c.in_ok-realm.realm _ c.in_ok-realm.ensures.step
    (goes _ _ c.in_ok-name.name _ c.in_ok-name.ensures.step (goes _ _ c.in_ok-ticket.ticket _ c.in_ok-ticket.ensures.step c.holding.ensures))
