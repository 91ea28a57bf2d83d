use Rattle.krb_as.proofs.ReplyLengths.{as_rep_replied}
use Rattle.krb_as.proofs.reply.first_reply.Goals as goal

pub returns-clause-sendable : goal.returns-clause-sendable
returns-clause-sendable c = as_rep_replied _ _ c.read_reply.result c.read_reply.ensures.reply
