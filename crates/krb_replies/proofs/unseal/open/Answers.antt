use Rattle.std.proofs.Common.{rules}
use Rattle.krb_replies.specs.Unseals.{OpensSealed}
use Rattle.krb_replies.proofs.Chains.{chains}
use Rattle.krb_replies.proofs.unseal.open.Goals as goal

pub returns-in_err-plain : goal.returns-in_err-plain
unfolding OpensSealed
returns-in_err-plain g c = search (rules, chains)

pub returns : goal.returns
unfolding OpensSealed
returns g c = search (rules, chains)
