use Rattle.std.proofs.Common.{rules}
use Rattle.krb_as.specs.Replies.{Unpacks}
use Rattle.krb_as.proofs.Chains.{chains}
use Rattle.krb_as.proofs.receiving.unpacked.Goals as goal

pub returns-in_err-carried : goal.returns-in_err-carried
unfolding Unpacks
returns-in_err-carried c = search (rules, chains)

pub returns : goal.returns
unfolding Unpacks
returns c = search (rules, chains)
