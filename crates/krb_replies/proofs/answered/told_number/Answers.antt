use Rattle.std.proofs.Common.{rules}
use Rattle.krb_replies.specs.Answered.{TellsNumber}
use Rattle.krb_replies.proofs.Chains.{chains}
use Rattle.krb_replies.proofs.answered.told_number.Goals as goal

pub returns-in_err-part : goal.returns-in_err-part
unfolding TellsNumber
returns-in_err-part c = search (rules, chains)

pub returns : goal.returns
unfolding TellsNumber
returns c = search (rules, chains)
