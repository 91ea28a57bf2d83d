use Rattle.std.proofs.Common.{rules}
use Rattle.krb_as.specs.Replies.{Skips}
use Rattle.krb_as.proofs.Chains.{chains}
use Rattle.krb_as.proofs.receiving.behind_front.Goals as goal

pub returns-in_err-check_front : goal.returns-in_err-check_front
unfolding Skips
returns-in_err-check_front c = search (rules, chains)

pub returns-in_err-check_size : goal.returns-in_err-check_size
unfolding Skips
returns-in_err-check_size c = search (rules, chains)

pub returns : goal.returns
unfolding Skips
returns c = search (rules, chains)
