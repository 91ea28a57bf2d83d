use Rattle.std.proofs.Common.{rules}
use Rattle.krb_replies.specs.Answered.{TellsSubKey}
use Rattle.krb_replies.proofs.Chains.{chains}
use Rattle.krb_replies.proofs.answered.told_sub_key.Goals as goal

pub returns-in_err-part : goal.returns-in_err-part
unfolding TellsSubKey
returns-in_err-part c = search (rules, chains)

pub returns : goal.returns
unfolding TellsSubKey
returns c = search (rules, chains)
