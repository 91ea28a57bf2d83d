use Rattle.krb_entrance.proofs.TurnedAway.{passed_as, refused_as}
use Rattle.krb_entrance.proofs.candidate.checked.Goals as goal

pub returns-in-Ok-clause-passes : goal.returns-in-Ok-clause-passes
returns-in-Ok-clause-passes c = passed_as _ c.in-Ok.judged c.in-Ok.ensures

pub returns-in-Err-clause-refused : goal.returns-in-Err-clause-refused
returns-in-Err-clause-refused c = refused_as _ c.in-Err.cause _ c.in-Err.ensures c.from.ensures
