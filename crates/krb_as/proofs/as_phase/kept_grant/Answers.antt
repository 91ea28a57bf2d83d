use Rattle.krb_as.proofs.Grants.{brings_grant}
use Rattle.krb_as.proofs.as_phase.kept_grant.Goals as goal

pub returns-clause-step : goal.returns-clause-step
returns-clause-step c = brings_grant _ _ _ _ _ _ _ c.fresh_kept_key-taken.ensures c.grant_in.ensures.step

pub returns-clause-down : goal.returns-clause-down
returns-clause-down c = c.grant_in.ensures.down c.args.asker.now _
