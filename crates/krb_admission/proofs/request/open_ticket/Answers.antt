use Rattle.std.proofs.Common.{rules}
use Rattle.krb_admission.specs.Requests.{OpensTicket}
use Rattle.sspi_core.proofs.Chain.{chain}
use Rattle.krb_admission.proofs.request.open_ticket.Goals as goal

pub returns-in_err-key : goal.returns-in_err-key
unfolding OpensTicket
returns-in_err-key c = search (rules, chain)

pub returns-in_err-part : goal.returns-in_err-part
unfolding OpensTicket
returns-in_err-part c = search (rules, chain)

pub returns : goal.returns
unfolding OpensTicket
returns c = search (rules, chain)
