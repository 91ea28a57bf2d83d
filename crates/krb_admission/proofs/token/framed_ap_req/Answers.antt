use Rattle.krb_admission.proofs.Frames.{refuses_framed}
use Rattle.krb_admission.proofs.token.framed_ap_req.Goals as goal

pub returns-in_err-read_or-in-Ok : goal.returns-in_err-read_or-in-Ok
returns-in_err-read_or-in-Ok c =
    refuses_framed c.args.token.now _ c.in-Ok.message.now c.in_err-read_or-in-Ok.field-0.0 c.from_residual.result c.in-Ok.ensures.frame c.in_err-read_or-in-Ok.ensures c.from_residual.ensures.1
