use Rattle.krb_as.proofs.as_exchange.in_phase.Goals as goal

pub returns-in-InAsExchange-AwaitsAsRep-clause-down : goal.returns-in-InAsExchange-AwaitsAsRep-clause-down
returns-in-InAsExchange-AwaitsAsRep-clause-down c = c.take_as_rep.ensures.down c.args.asker.now _
