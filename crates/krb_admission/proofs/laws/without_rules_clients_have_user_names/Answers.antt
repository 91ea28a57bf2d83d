use Rattle.std.proofs.Common.{refl}
use Rattle.krb_admission.proofs.laws.without_rules_clients_have_user_names.Goals as goal

pub returns-clause-user : goal.returns-clause-user
returns-clause-user c = λ name realm. refl

pub returns-clause-known : goal.returns-clause-known
returns-clause-known c = λ name realm. refl
