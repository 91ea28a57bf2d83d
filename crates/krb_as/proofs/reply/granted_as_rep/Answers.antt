use Rattle.krb_as.proofs.ReplyLengths.{as_rep_granted}
use Rattle.krb_as.proofs.reply.granted_as_rep.Goals as goal

pub returns-clause-sendable : goal.returns-clause-sendable
returns-clause-sendable c = as_rep_granted _ _ c.granted.result c.granted.ensures
