use Rattle.krb_machine.proofs.LeftLemmas.{passing-done}
use Rattle.krb_machine.proofs.laws.completeness.Goals as goal

pub returns : goal.returns
returns c = passing-done
