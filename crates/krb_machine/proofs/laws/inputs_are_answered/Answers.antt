use Rattle.krb_machine.proofs.CloseLemmas.{answered-whole}
use Rattle.krb_machine.proofs.laws.inputs_are_answered.Goals as goal

pub returns : goal.returns
returns c = answered-whole
