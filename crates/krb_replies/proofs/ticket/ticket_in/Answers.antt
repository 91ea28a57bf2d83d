use Rattle.krb_replies.proofs.Tickets.{refuses_ticket}
use Rattle.krb_replies.proofs.ticket.ticket_in.Goals as goal

pub returns-in-Err-read_or : goal.returns-in-Err-read_or
returns-in-Err-read_or c = refuses_ticket c.args.token.now _ _ c.in-Ok.message.now c.in-Err-read_or.cause c.in-Ok.ensures.token_id c.in-Ok.ensures.frame c.in-Err-read_or.ensures
