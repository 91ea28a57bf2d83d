use Rattle.krb_context.proofs.RunLemmas.{numbers_rise}
use Rattle.krb_context.proofs.laws.numbers_rise_over_a_run.Goals as goal

pub returns : goal.returns
returns c = λ context calls all k h. numbers_rise context calls all k h
