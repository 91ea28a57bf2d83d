use Rattle.krb_machine.proofs.RulesLemmas.{run_by}
use Rattle.krb_machine.proofs.laws.rules_stay.Goals as goal

pub returns : goal.returns
returns g c = run_by g.G.ReplayGate.admits
