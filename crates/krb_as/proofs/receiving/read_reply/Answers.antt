use Rattle.std.proofs.Common.{rules}
use Rattle.krb_as.specs.Replies.{Replies}
use Rattle.krb_as.proofs.Chains.{chains}
use Rattle.krb_as.proofs.receiving.read_reply.Goals as goal

pub returns-in_err-message-clause-reply : goal.returns-in_err-message-clause-reply
unfolding Replies
returns-in_err-message-clause-reply g c = search (rules, chains)

pub returns-clause-reply : goal.returns-clause-reply
unfolding Replies
returns-clause-reply g c = search (rules, chains)
