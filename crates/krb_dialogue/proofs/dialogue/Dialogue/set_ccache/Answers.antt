use Rattle.krb_dialogue.proofs.Found.{cache_refused, holder_refused}
use Rattle.krb_dialogue.proofs.dialogue.Dialogue.set_ccache.Goals as goal

pub returns-in-Err-set_ticket-clause-refused : goal.returns-in-Err-set_ticket-clause-refused
returns-in-Err-set_ticket-clause-refused c =
    holder_refused c.args.self.now.options.target c.args.cache.now c.args.seconds c.in-Ok.which c.in-Ok.held c.in-Err-set_ticket.error c.in-Ok.ensures c.in-Err-set_ticket.ensures.refused

pub returns-in-Err-clause-refused : goal.returns-in-Err-clause-refused
returns-in-Err-clause-refused c =
    cache_refused c.args.self.now.options.target c.args.cache.now c.args.seconds c.in-Err.cause c.from.result c.in-Err.ensures c.from.ensures
