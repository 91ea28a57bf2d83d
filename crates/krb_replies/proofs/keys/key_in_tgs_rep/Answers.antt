use Rattle.std.proofs.Common.{rules}
use Rattle.krb_replies.specs.Keys.{BringsNext}
use Rattle.krb_replies.proofs.Chains.{chains}
use Rattle.krb_replies.proofs.keys.key_in_tgs_rep.Goals as goal

pub returns-in_err-part : goal.returns-in_err-part
unfolding BringsNext
returns-in_err-part c = search (rules, chains)

pub returns : goal.returns
unfolding BringsNext
returns c = search (rules, chains)
