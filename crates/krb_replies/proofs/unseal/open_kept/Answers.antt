use Rattle.std.proofs.Common.{rules}
use Rattle.krb_replies.specs.Unseals.{OpensSealed}
use Rattle.sspi_core.proofs.Chain.{chain}
use Rattle.krb_replies.proofs.unseal.open_kept.Goals as goal

pub returns-in_err-plain : goal.returns-in_err-plain
unfolding OpensSealed
returns-in_err-plain g c = search (rules, chain)

pub returns : goal.returns
unfolding OpensSealed
returns g c = search (rules, chain)
