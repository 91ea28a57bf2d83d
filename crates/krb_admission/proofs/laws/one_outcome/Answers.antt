use Rattle.krb_admission.proofs.Once.{one_outcome_lem}
use Rattle.krb_admission.proofs.laws.one_outcome.Goals as goal

pub returns : goal.returns
returns c = one_outcome_lem
