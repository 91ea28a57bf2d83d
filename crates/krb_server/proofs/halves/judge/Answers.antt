use Rattle.std.proofs.Common.{Err, ap, ◌∙◌}
use Rattle.sspi_core.specs.declared.cause.Cause.TheVariants as causes
use Rattle.sspi_core.specs.Kinds.{error_of}
use Rattle.sspi_core.proofs.Chain.{same_err}
use Rattle.krb_admission.specs.Halves.{Prepared}
use Rattle.krb_server.proofs.halves.judge.Goals as goal

pub returns-in-Err-clause-step : goal.returns-in-Err-clause-step
returns-in-Err-clause-step c =
    let judges = rw c.contains-dce.ensures at c.in-Err.ensures.judges in
    λ ne. (Err c.in-Err.cause, ap Err c.from.ensures, judges.so (λ z. ne (ap Err (c.from.ensures ∙ ap error_of (same_err {A = Prepared} c.in-Err.cause causes.Memory z)))))
