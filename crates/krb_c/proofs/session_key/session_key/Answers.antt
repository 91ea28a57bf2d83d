use Rattle.std.proofs.Common.{◌≡◌, sym, ap, ◌∙◌}
use Rattle.std.specs.Prelude.{Some}
use Rattle.sspi_core.specs.Checks.{Takes}
use Rattle.sspi_core.specs.declared.cause.Cause.TheVariants as causes
use Rattle.sspi_core.specs.declared.error.Place.TheVariants as places
use Rattle.krb_context.specs.Params.{key_of}
use Rattle.krb_sessions.specs.Gives.{IsKey}
use Rattle.krb_c.proofs.Served.{serves_not}
use Rattle.krb_c.proofs.session_key.session_key.Goals as goal

pub returns-in-Err-clause-fails : goal.returns-in-Err-clause-fails
returns-in-Err-clause-fails c =
    rw c.from.ensures (serves_not ⊥ places.Elsewhere (λ s. Takes causes.Sequence (key_of s.connection.encryption_params)) (λ s. IsKey s.connection) _ _ c.deref.result.now c.in-Err.fault
    (sym c.in-Some.ensures.taken ∙ ap Some (sym c.deref.ensures)) c.in-Err.ensures.refused)
