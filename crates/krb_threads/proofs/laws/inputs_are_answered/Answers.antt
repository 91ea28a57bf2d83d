use Rattle.krb_threads.proofs.ClosingLemmas.{answered-whole}
use Rattle.krb_threads.proofs.laws.inputs_are_answered.Goals as goal

pub returns : goal.returns
returns c = answered-whole
