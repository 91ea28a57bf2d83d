use Rattle.krb_user_to_user.proofs.Few.{few}
use Rattle.krb_user_to_user.proofs.laws.acceptances_ask_twice_at_most.Goals as goal

pub returns : goal.returns
returns g c = λ run run' client client' draws out new resolves. few _ run run' client client' draws out new resolves
