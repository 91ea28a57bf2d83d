use Rattle.std.proofs.Common.{rules}
use Rattle.krb_replies.specs.Keys.{OpensFirst}
use Rattle.krb_replies.proofs.Chains.{chains}
use Rattle.krb_replies.proofs.keys.open_first.Goals as goal

pub returns-in_err-plain : goal.returns-in_err-plain
unfolding OpensFirst
returns-in_err-plain c = search (rules, chains)

pub returns : goal.returns
unfolding OpensFirst
returns c = search (rules, chains)
