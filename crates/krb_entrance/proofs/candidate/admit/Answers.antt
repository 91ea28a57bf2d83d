use Rattle.krb_entrance.proofs.TurnedAway.{turned_away}
use Rattle.krb_entrance.proofs.candidate.admit.Goals as goal

pub returns-in-Err-clause-refused : goal.returns-in-Err-clause-refused
returns-in-Err-clause-refused c =
    turned_away c.args.candidate c.admit_at.new.connection c.args.book.now c.admit_at.new.book c.in-Err.error c.in-Err.ensures.refused
