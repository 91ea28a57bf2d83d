use Rattle.krb_entrance.proofs.Named.{known}
use Rattle.krb_entrance.proofs.laws.admitted_clients_have_names.Goals as goal

pub returns : goal.returns
returns c = λ keys channel token draw old new session admits. known keys channel token draw old new session admits
