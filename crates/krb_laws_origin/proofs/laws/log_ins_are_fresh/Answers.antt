use Rattle.krb_laws_origin.proofs.FreshEvents.{log_in_fresh, end_answered, stays_fresh}
use Rattle.krb_laws_origin.proofs.laws.log_ins_are_fresh.Goals as goal

pub returns-clause-fresh : goal.returns-clause-fresh
returns-clause-fresh g c = λ before after events replies id first last key runs there begins now has. log_in_fresh g.G.ReplayGate.admits before after events replies id first runs there begins last now key has

pub returns-clause-answered : goal.returns-clause-answered
returns-clause-answered g c = λ before after events replies id first last runs there begins now over. end_answered g.G.ReplayGate.admits before after events replies id first runs there begins last now over

pub returns-clause-stays : goal.returns-clause-stays
returns-clause-stays g c = λ before after events replies id first runs there begins. stays_fresh g.G.ReplayGate.admits before after events replies id first runs there begins
