use Rattle.std.proofs.Common.{rules}
use Rattle.krb_as.specs.Replies.{Unproxies}
use Rattle.krb_as.proofs.Chains.{chains}
use Rattle.krb_as.proofs.receiving.unproxied.Goals as goal

pub returns-in_err-check_size : goal.returns-in_err-check_size
unfolding Unproxies
returns-in_err-check_size c = search (rules, chains)

pub returns-in_err-message : goal.returns-in_err-message
unfolding Unproxies
returns-in_err-message c = search (rules, chains)

pub returns : goal.returns
unfolding Unproxies
returns c = search (rules, chains)
