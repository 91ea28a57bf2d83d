use Rattle.krb_laws_service.proofs.PlayedLemmas.{other-connections}
use Rattle.krb_laws_service.proofs.laws.events_leave_other_connections.Goals as goal

pub returns : goal.returns
returns g c = λ state after event reply id step differs. other-connections g.G.ReplayGate.admits state after event reply id step differs
