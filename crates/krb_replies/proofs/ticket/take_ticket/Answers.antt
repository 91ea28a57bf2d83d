use Rattle.std.proofs.Common.{rules}
use Rattle.krb_replies.specs.Tickets.{TakesTicket}
use Rattle.krb_replies.proofs.Chains.{chains}
use Rattle.krb_replies.proofs.ticket.take_ticket.Goals as goal

pub returns-in_err-check_token_length : goal.returns-in_err-check_token_length
unfolding TakesTicket
returns-in_err-check_token_length c = search (rules, chains)

pub returns : goal.returns
unfolding TakesTicket
returns c = search (rules, chains)
