use Rattle.krb_as.proofs.Grants.{brings_early}
use Rattle.krb_as.proofs.as_phase.early_grant.Goals as goal

pub returns-clause-step : goal.returns-clause-step
returns-clause-step c = brings_early _ _ _ _ _ _ _ _ c.early_key-taken.ensures c.grant_in.ensures.step

pub returns-clause-down : goal.returns-clause-down
returns-clause-down c = c.grant_in.ensures.down c.args.asker.now _
