use Rattle.std.proofs.Common.{rules}
use Rattle.krb_admission.specs.Complete.{Completes}
use Rattle.sspi_core.proofs.Chain.{plain_chain}
use Rattle.krb_admission.proofs.complete.completed.Goals as goal

pub returns-in_err-check_client : goal.returns-in_err-check_client
unfolding Completes
returns-in_err-check_client c = search (rules, plain_chain)

pub returns-in_err-check_options : goal.returns-in_err-check_options
unfolding Completes
returns-in_err-check_options c = search (rules, plain_chain)

pub returns-in_err-check_subkey : goal.returns-in_err-check_subkey
unfolding Completes
returns-in_err-check_subkey c = search (rules, plain_chain)

pub returns : goal.returns
unfolding Completes
returns c = search (rules, plain_chain)
