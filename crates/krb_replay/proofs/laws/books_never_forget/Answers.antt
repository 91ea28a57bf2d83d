use Rattle.krb_replay.proofs.Runs.{all}
use Rattle.krb_replay.proofs.laws.books_never_forget.Goals as goal

pub returns-clause-verdicts : goal.returns-clause-verdicts
returns-clause-verdicts c old new asks verdicts h s run = (all old new asks verdicts h s run).answers

pub returns-clause-stands : goal.returns-clause-stands
returns-clause-stands c old new asks verdicts h s run = (all old new asks verdicts h s run).stands
