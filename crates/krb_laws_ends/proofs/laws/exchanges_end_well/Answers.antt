use Rattle.krb_laws_ends.proofs.EstablishedLemmas.{ends_well}
use Rattle.krb_laws_ends.proofs.laws.exchanges_end_well.Goals as goal

pub returns : goal.returns
returns g c = λ initiator server server' options env own draw client offer old new answer for_it style offered bare is are_new.
    ends_well server draw client offer for_it is initiator options own offered g.G.ReplayGate.admits server' env old new answer style bare are_new
