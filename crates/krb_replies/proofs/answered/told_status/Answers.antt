use Rattle.std.proofs.Common.{rules}
use Rattle.krb_replies.specs.Answered.{TellsStatus}
use Rattle.krb_replies.proofs.Chains.{chains}
use Rattle.krb_replies.proofs.answered.told_status.Goals as goal

pub returns-in_err-suite : goal.returns-in_err-suite
unfolding TellsStatus
returns-in_err-suite c = search (rules, chains)

pub returns-in_err-part : goal.returns-in_err-part
unfolding TellsStatus
returns-in_err-part c = search (rules, chains)

pub returns : goal.returns
unfolding TellsStatus
returns c = search (rules, chains)
