use Rattle.std.proofs.Common.{Ok, Err, ap, refl}
use Rattle.sspi_core.proofs.Chain.{same_err}
use Rattle.sspi_core.specs.declared.cause.Cause.TheVariants as causes
use Rattle.krb_admission.specs.declared.admission.Answer.{Answer}
use Rattle.krb_server.proofs.accept.judge_other.Goals as goal

pub returns-in-Ok-clause-step : goal.returns-in-Ok-clause-step
returns-in-Ok-clause-step g c =
    λ ne. record { judged = Ok c.in-Ok.answer; accepts = c.in-Ok.ensures.step (λ z. absurd cc); answer_is = ap Ok c.accepted_as.ensures.same }

pub returns-in-Err-clause-step : goal.returns-in-Err-clause-step
returns-in-Err-clause-step g c =
    λ ne. record {
      judged = Err c.in-Err.cause;
      accepts = c.in-Err.ensures.step (λ z. ne (ap Err (same_err {A = Answer} c.in-Err.cause causes.Memory z)));
      answer_is = refl;
    }
