use Rattle.krb_entrance.proofs.TurnedAway.{refused_by}
use Rattle.krb_entrance.proofs.told.admit_by.Goals as goal

pub returns-in-Err-clause-refused : goal.returns-in-Err-clause-refused
returns-in-Err-clause-refused c = refused_by _ c.in-Err.error c.in-Err.ensures.step
