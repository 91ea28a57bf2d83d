use Rattle.krb_as.proofs.ReplyLengths.{tgs_rep_granted}
use Rattle.krb_as.proofs.reply.granted_tgs_rep.Goals as goal

pub returns-clause-sendable : goal.returns-clause-sendable
returns-clause-sendable c = tgs_rep_granted _ _ c.granted.result c.granted.ensures
