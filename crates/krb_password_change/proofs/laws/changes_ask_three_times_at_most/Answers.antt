use Rattle.krb_password_change.proofs.Few.{few}
use Rattle.krb_password_change.proofs.laws.changes_ask_three_times_at_most.Goals as goal

pub returns : goal.returns
returns g c = λ run run' client client' draws out new resolves. few _ run run' client client' draws out new resolves
