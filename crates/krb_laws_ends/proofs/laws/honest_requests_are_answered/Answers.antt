use Rattle.krb_laws_ends.proofs.HonestLemmas.{is_answered}
use Rattle.krb_laws_ends.proofs.laws.honest_requests_are_answered.Goals as goal

pub returns : goal.returns
returns g c = λ server server' env draw client offer old new answer for_it.
    is_answered g.G.ReplayGate.admits server server' env draw client offer old new answer for_it
