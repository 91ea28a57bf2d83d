use Rattle.std.proofs.Common.{rules, ◌∙◌}
use Rattle.krb_admission.specs.Requests.{Requests}
use Rattle.sspi_core.proofs.Chain.{chain, stops, goes}
use Rattle.krb_admission.proofs.request.read_request.Goals as goal

pub returns-in_err-receive : goal.returns-in_err-receive
unfolding Requests
returns-in_err-receive c = search (rules, chain)

pub returns-in_err-open_ticket : goal.returns-in_err-open_ticket
unfolding Requests
returns-in_err-open_ticket c =
    let ticket = rw (c.deref.ensures ∙ c.in_ok-message.ensures) at c.in_err-open_ticket.ensures in
    goes _ _ c.in_ok-receive.field-0 _ c.in_ok-receive.ensures (stops _ _ _ _ ticket c.from_residual-in_err-open_ticket.ensures.1)

pub returns-in_err-suite : goal.returns-in_err-suite
unfolding Requests
returns-in_err-suite c =
    let ticket = rw (c.deref.ensures ∙ c.in_ok-message.ensures) at c.in_ok-open_ticket.ensures in
    let sealed = rw (c.deref-2.ensures ∙ c.in_ok-message.ensures, c.deref-3.ensures ∙ c.in_ok-part.ensures) at c.in_err-suite.ensures in
    goes _ _ c.in_ok-receive.field-0 _ c.in_ok-receive.ensures (goes _ _ c.in_ok-open_ticket.field-0 _ ticket (stops _ _ _ _ sealed c.from_residual-in_err-suite.ensures.1))

pub returns : goal.returns
unfolding Requests
returns c = search (rules, chain)
