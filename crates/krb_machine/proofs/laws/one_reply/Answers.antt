use Rattle.krb_machine.specs.Policy.{Says}
use Rattle.krb_machine.proofs.OnceLemmas.{says-determined, step-once}
use Rattle.krb_machine.proofs.laws.one_reply.Goals as goal

pub returns : goal.returns
returns g c = λ verdict state a b event r s. step-once (Says verdict) (says-determined verdict) state event r s a b
