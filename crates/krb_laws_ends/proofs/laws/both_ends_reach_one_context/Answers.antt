use Rattle.krb_laws_ends.proofs.ReachLemmas.{reach}
use Rattle.krb_laws_ends.proofs.laws.both_ends_reach_one_context.Goals as goal

pub returns : goal.returns
returns g c = λ initiator acceptor acceptor' options more target service_key credentials client suite answers rep part env first own draw old new answer
    same kdcs holds fits meets are_new drawn is end step only.
    reach initiator acceptor acceptor' options more target service_key credentials client suite answers rep part env first own draw g.G.ReplayGate.admits old new answer
    same kdcs holds fits meets are_new drawn is end step only
