use Rattle.krb_as.proofs.Grants.{ends_early}
use Rattle.krb_as.proofs.as_exchange.end_early.Goals as goal

pub returns-clause-step : goal.returns-clause-step
returns-clause-step c = ends_early _ _ _ _ _ c.early_salt-salt.ensures c.end_in.ensures.step

pub returns-clause-down : goal.returns-clause-down
returns-clause-down c = c.end_in.ensures.down c.args.asker.now _
