use Rattle.krb_laws_ends.proofs.BoundLemmas.{fits_any}
use Rattle.krb_laws_ends.proofs.ReachLemmas.{reach}
use Rattle.krb_as.specs.Askers.{asker_suite}
use Rattle.krb_laws_ends.specs.Fetches.{seeker_for}
use Rattle.krb_laws_kdc.proofs.laws.fetched_tickets_are_admitted.Goals as goal

pub returns : goal.returns
returns g c = λ initiator acceptor acceptor' options more target service_key credentials client user out env first own draw old new answer
    same fetched holds meets are_new drawn is step only.
    reach initiator acceptor acceptor' options more target service_key credentials client (asker_suite (seeker_for initiator options target credentials client).asker)
    fetched.answers fetched.rep fetched.part env first own draw g.G.ReplayGate.admits old new answer same fetched.honest holds
    (fits_any acceptor.rules fetched.part user fetched.valid fetched.direct fetched.named) meets are_new drawn is fetched.end step only
