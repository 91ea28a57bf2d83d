use Rattle.std.proofs.Common.{refl}
use Rattle.krb_admission.proofs.laws.without_rules_clients_are_compared_by_type_too.Goals as goal

pub returns : goal.returns
returns c = λ part authenticator. refl
