use Rattle.krb_laws_service.proofs.HandedLemmas.{both-by-events}
use Rattle.krb_laws_service.proofs.laws.both_ends_reach_one_context_by_events.Goals as goal

pub returns : goal.returns
returns g c = λ initiator waiting acceptor flags env target service_key credentials client suite answers rep part draw reply can kdcs drawn holds fits unbound are_new initiator_free acceptor_free fetched.
    both-by-events g.G.ReplayGate.admits initiator acceptor flags env target service_key credentials client suite answers rep part draw reply waiting
    can kdcs drawn holds fits unbound are_new initiator_free acceptor_free fetched
