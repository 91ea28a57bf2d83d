use Rattle.krb_laws_ends.proofs.BeginLemmas.{begins, asks_mutual}
use Rattle.krb_laws_ends.proofs.laws.initiators_begin.Goals as goal

pub returns-clause-begins : goal.returns-clause-begins
returns-clause-begins c = begins

pub returns-clause-asks : goal.returns-clause-asks
returns-clause-asks c = asks_mutual
