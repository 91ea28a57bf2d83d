use Rattle.krb_laws_service.proofs.PlayedLemmas.{played-understood}
use Rattle.krb_laws_service.proofs.laws.established_connections_understand_each_other.Goals as goal

pub returns : goal.returns
returns g c = λ left right suite session_key sub_session_key ec turns replies are free other fair plays.
    played-understood g.G.ReplayGate.admits left right suite session_key sub_session_key ec turns replies are free other fair plays
