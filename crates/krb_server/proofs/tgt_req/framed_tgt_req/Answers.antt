use Rattle.krb_server.proofs.Frames.{framed_found}
use Rattle.krb_server.proofs.tgt_req.framed_tgt_req.Goals as goal

pub returns-in-Ok : goal.returns-in-Ok
returns-in-Ok c = framed_found _ c.in-Ok.message.now c.args.token.now c.in-Ok.ensures.frame c.bare_tgt_req.result c.bare_tgt_req.ensures
