use Rattle.krb_as.proofs.Once.{starts_once, next_once}
use Rattle.krb_as.proofs.laws.one_outcome.Goals as goal

pub returns : goal.returns
returns c = record { starts = λ asker phase r s h k. (starts_once asker phase).same r s h k; resumes = λ asker phase reply draw r s h k. (next_once asker phase reply draw).same r s h k }
