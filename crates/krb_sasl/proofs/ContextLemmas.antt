-- The results of the context, as this crate returns them.
use Rattle.std.proofs.Common.{◌≡◌, Result, Ok, Err, refl, ap, ◌∙◌}
use Rattle.std.specs.Result.{IsErrAnd}
use Rattle.sspi_core.specs.declared.cause.Cause.{Cause}
use Rattle.sspi_core.specs.declared.error.Error.{Error}
use Rattle.sspi_core.specs.declared.error.Place.TheVariants.{Elsewhere}
use Rattle.krb_context.specs.Refusals.{Refuses}
use Rattle.krb_sasl.specs.declared.error.SaslError.{SaslError}
use Rattle.krb_sasl.specs.Answers.{Answers}
use Rattle.krb_sasl.specs.InContext.{InContext, refusal_of}
use Rattle.sspi_core.proofs.Chain.{is_err}

-- what was found is handed on
pub tells_value : {A : Type 0} (checks : Result A Cause → Type 0) (x : A) → checks (Ok x) → Answers (InContext checks) (Ok x)
tells_value checks x h = record { so = λ ne. record { outcome = Ok x; checked = h; is = refl } }

-- a refusal of a call of the context is handed on, where the checks refuse as those of the call
pub tells_error : {A B : Type 0} (first : Result A Cause → Type 0) (checks : Result B Cause → Type 0) (error : Error) (answer : Result B SaslError)
    → Refuses Elsewhere first error
    → IsErrAnd answer (λ d. d ≡ refusal_of error) → ((cause : Cause) → first (Err cause) → checks (Err cause)) → Answers (InContext checks) answer
tells_error first checks error answer h is back = record {
  so = λ ne.
      let r = h.so (λ z. ne (is_err answer (refusal_of error) is ∙ ap Err (ap refusal_of z))) in
      record { outcome = Err r.0; checked = back r.0 r.2; is = is_err answer (refusal_of error) is ∙ ap Err (ap refusal_of r.1) };
}
