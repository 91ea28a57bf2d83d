use Rattle.std.proofs.Common.{rules}
use Rattle.krb_admission.specs.ThirdLeg.{ReadsApRep}
use Rattle.sspi_core.proofs.Chain.{chain}
use Rattle.krb_admission.proofs.third_leg.read_ap_rep.Goals as goal

pub returns-in_err-check_token_length : goal.returns-in_err-check_token_length
unfolding ReadsApRep
returns-in_err-check_token_length c = search (rules, chain)

pub returns : goal.returns
unfolding ReadsApRep
returns c = search (rules, chain)
