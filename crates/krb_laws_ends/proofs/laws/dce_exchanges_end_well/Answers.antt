use Rattle.krb_laws_ends.proofs.EstablishedLemmas.{ends_well_in_turn}
use Rattle.krb_laws_ends.proofs.laws.dce_exchanges_end_well.Goals as goal

pub returns : goal.returns
returns g c = λ initiator server server' options env own draw client offer old new answer for_it style offered bare drawn is are_new.
    ends_well_in_turn server draw client offer for_it is initiator options own offered g.G.ReplayGate.admits server' env old new answer style bare drawn are_new
