use Rattle.std.proofs.Common.{rules}
use Rattle.krb_admission.specs.ThirdLeg.{TellsLast}
use Rattle.sspi_core.proofs.Chain.{chain}
use Rattle.krb_admission.proofs.third_leg.last_number.Goals as goal

pub returns-in_err-message : goal.returns-in_err-message
unfolding TellsLast
returns-in_err-message c = search (rules, chain)

pub returns-in_err-key : goal.returns-in_err-key
unfolding TellsLast
returns-in_err-key c = search (rules, chain)

pub returns : goal.returns
unfolding TellsLast
returns c = search (rules, chain)
