-- The result of a call that fails.
use Rattle.std.proofs.Common.{◌≡◌, refl, ap, ◌∙◌, Result, Ok, Err}
use Rattle.std.specs.Result.{IsErrAnd, IfErr}
use Rattle.sspi_core.specs.declared.cause.Cause.{Cause}
use Rattle.sspi_core.specs.declared.cause.Cause.TheVariants.{Memory}
use Rattle.sspi_core.specs.declared.error.Error.{Error}
use Rattle.sspi_core.specs.declared.error.Place.{Place}
use Rattle.sspi_core.specs.declared.error.Place.TheVariants.{Query, MakeMic, Elsewhere}
use Rattle.sspi_core.specs.Kinds.{error_at, error_of}
use Rattle.sspi_core.specs.Checks.{Answers}
use Rattle.sspi_core.proofs.Chain.{same_err}
use Rattle.krb_context.specs.Refusals.{Refuses}

memory_there : (place : Place) → error_at place Memory ≡ error_of Memory
memory_there Query = refl
memory_there MakeMic = refl
memory_there Elsewhere = refl

-- a public call hands on a refusal with its kind
pub refuses : {A : Type 0} (place : Place) (checks : Result A Cause → Type 0) (cause : Cause) (error : Error) → Answers checks (Err cause) → error ≡ error_at place cause
    → Refuses place checks error
refuses {A} place checks cause error h same = record {
  so = λ ne. (cause, same, h.so (λ z. ne (same ∙ ap (error_at place) (same_err {A = A} cause Memory z) ∙ memory_there place)));
}

-- an error that a call hands on
pub handed_on : {A T : Type 0} (place : Place) (checks : Result A Cause → Type 0) (cause : Cause) (answer : Result T Error) → Answers checks (Err cause)
    → IsErrAnd answer (λ d. d ≡ error_at place cause) → IfErr answer (λ error. Refuses place checks error)
handed_on place checks cause (Ok x) h is = absurd is
handed_on place checks cause (Err error) h is = refuses place checks cause error h is
