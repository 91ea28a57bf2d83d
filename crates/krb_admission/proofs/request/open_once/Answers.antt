use Rattle.std.proofs.Common.{rules}
use Rattle.krb_replies.specs.Unseals.{OpensData}
use Rattle.sspi_core.proofs.Chain.{chain}
use Rattle.krb_admission.proofs.request.open_once.Goals as goal

pub returns-in_err-suite : goal.returns-in_err-suite
unfolding OpensData
returns-in_err-suite c = search (rules, chain)

pub returns-in_err-value : goal.returns-in_err-value
unfolding OpensData
returns-in_err-value c = search (rules, chain)

pub returns : goal.returns
unfolding OpensData
returns c = search (rules, chain)
