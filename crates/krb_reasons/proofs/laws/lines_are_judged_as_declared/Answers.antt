use Rattle.krb_reasons.proofs.JudgedLemmas.{judged}
use Rattle.krb_reasons.proofs.laws.lines_are_judged_as_declared.Goals as goal

pub returns : goal.returns
returns c = λ so_far line. judged so_far line
