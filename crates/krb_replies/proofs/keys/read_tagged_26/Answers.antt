use Rattle.krb_replies.proofs.FirstParts.{found_tagged, refused_tagged}
use Rattle.krb_replies.proofs.keys.read_tagged_26.Goals as goal

pub returns-in_err-part : goal.returns-in_err-part
returns-in_err-part c = refused_tagged c.args.plain.now _ _ c.in_err-part.ensures c.from_residual.ensures.1

pub returns : goal.returns
returns c = found_tagged c.args.plain.now _ c.in_ok-part.ensures
