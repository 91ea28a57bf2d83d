use Rattle.krb_machine.proofs.PolicyLemmas.{Runs-length}
use Rattle.krb_machine.proofs.laws.one_reply_an_event.Goals as goal

pub returns : goal.returns
returns g c = λ state after events replies runs. Runs-length g.G.ReplayGate.admits state events replies after runs
