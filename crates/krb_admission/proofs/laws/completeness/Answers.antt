use Rattle.krb_admission.proofs.Steps.{completed}
use Rattle.krb_admission.proofs.laws.completeness.Goals as goal

pub returns : goal.returns
returns g c = λ server server' dce token draw old new answer admission step admits_it passes. completed g.G.ReplayGate.admits server dce token draw old new answer server' admission step admits_it passes
