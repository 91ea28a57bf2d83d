use Rattle.std.proofs.Common.{refl}
use Rattle.krb_password_change.proofs.Told.{read_answer, no_message}
use Rattle.krb_password_change.proofs.answer.answer_in.Goals as goal

pub returns-in-Ok : goal.returns-in-Ok
returns-in-Ok c = read_answer c.args.octets.now _ c.in-Ok.message c.behind_reply.result c.as_slice.ensures c.in-Ok.ensures.found c.behind_reply.ensures

pub returns-in-Err-Shape : goal.returns-in-Err-Shape
returns-in-Err-Shape c = no_message c.args.octets.now _ c.as_slice.ensures (c.in-Err-Shape.ensures.shape (rw c.in-Err-Shape.field-0-is refl))
