use Rattle.krb_ap.proofs.ApRepTokens.{framed_read}
use Rattle.krb_ap.proofs.service.framed_ap_rep.Goals as goal

pub returns-in-Ok : goal.returns-in-Ok
returns-in-Ok c = framed_read c.args.token.now _ c.in-Ok.message.now c.read_or.result c.in-Ok.ensures.frame c.read_or.ensures
