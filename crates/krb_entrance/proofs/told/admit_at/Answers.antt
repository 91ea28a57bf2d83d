use Rattle.krb_entrance.proofs.TurnedAway.{told_away}
use Rattle.krb_entrance.proofs.told.admit_at.Goals as goal

pub returns-in-Err-clause-refused : goal.returns-in-Err-clause-refused
returns-in-Err-clause-refused c =
    told_away c.args.candidate c.admit_by.new.connection c.args.gate.now c.admit_by.new.gate c.in-Err.error c.in-Err.ensures.refused
