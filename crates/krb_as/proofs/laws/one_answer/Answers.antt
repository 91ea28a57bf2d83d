use Rattle.krb_as.proofs.Carrying.{unwraps_once}
use Rattle.krb_as.proofs.laws.one_answer.Goals as goal

pub returns : goal.returns
returns c = λ protocol reply x y h k. (unwraps_once protocol reply).same x y h k
