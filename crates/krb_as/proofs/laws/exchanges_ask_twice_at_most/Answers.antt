use Rattle.krb_as.proofs.Few.{few}
use Rattle.krb_as.proofs.laws.exchanges_ask_twice_at_most.Goals as goal

pub returns : goal.returns
returns g c = λ exchange exchange' client client' draws out new resolves. few _ exchange exchange' client client' draws out new resolves
