-- Refusals of public calls.
use Rattle.std.specs.Prelude.{◌≡◌, Result, Err}
use Rattle.sspi_core.specs.declared.cause.Cause.{Cause}
use Rattle.sspi_core.specs.declared.cause.Cause.TheVariants.{Memory}
use Rattle.sspi_core.specs.declared.error.Error.{Error}
use Rattle.sspi_core.specs.declared.error.Place.{Place}
use Rattle.sspi_core.specs.Kinds.{error_at, error_of}

-- the checks refuse so, with the kind that the cause has at the place, unless memory ran out
pub record Refuses {A : Type 0} (place : Place) (checks : Result A Cause → Type 0) (error : Error) : Type 0 where
  pub so : (error ≡ error_of Memory → ⊥) → (cause : Cause) × (error ≡ error_at place cause) × checks (Err cause)
