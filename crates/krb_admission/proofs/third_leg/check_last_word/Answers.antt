use Rattle.std.proofs.Common.{rules}
use Rattle.krb_admission.specs.ThirdLeg.{IsLastWord}
use Rattle.sspi_core.proofs.Chain.{chain}
use Rattle.krb_admission.proofs.third_leg.check_last_word.Goals as goal

pub returns-in_err-properties : goal.returns-in_err-properties
unfolding IsLastWord
returns-in_err-properties c = search (rules, chain)

pub returns-in_err-number : goal.returns-in_err-number
unfolding IsLastWord
returns-in_err-number c = search (rules, chain)

pub returns : goal.returns
unfolding IsLastWord
returns c = search (rules, chain)
