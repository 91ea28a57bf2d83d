use Rattle.std.proofs.Common.{rules}
use Rattle.krb_replies.specs.Keys.{BringsFirst}
use Rattle.krb_replies.proofs.Chains.{chains}
use Rattle.krb_replies.proofs.keys.key_in_as_rep.Goals as goal

pub returns-in_err-part : goal.returns-in_err-part
unfolding BringsFirst
returns-in_err-part c = search (rules, chains)

pub returns : goal.returns
unfolding BringsFirst
returns c = search (rules, chains)
