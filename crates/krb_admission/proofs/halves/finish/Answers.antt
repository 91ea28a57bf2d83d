use Rattle.std.proofs.Common.{ap, Ok, refl}
use Rattle.krb_admission.specs.Accepts.{FinishesAdmission}
use Rattle.sspi_core.proofs.Chain.{halts, follows}
use Rattle.krb_admission.proofs.halves.finish.Goals as goal

pub returns-in_ok-admission_of-in-Ok : goal.returns-in_ok-admission_of-in-Ok
unfolding FinishesAdmission
returns-in_ok-admission_of-in-Ok c = follows _ _ _ _ (rw c.in-Ok.is at c.in_ok-completed.ensures) (record { is = ap Ok c.in_ok-admission_of-in-Ok.ensures })

pub returns-in-Err : goal.returns-in-Err
unfolding FinishesAdmission
returns-in-Err c = halts _ _ _ _ (rw c.in-Err.is at c.in_ok-completed.ensures) refl
