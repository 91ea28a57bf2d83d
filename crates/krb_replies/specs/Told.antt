-- More relations of ordered checks: a computed answer, and the result of a public call from the answer of its checks.
use Rattle.std.specs.Prelude.{◌≡◌, Result, Err}
use Rattle.sspi_core.specs.declared.cause.Cause.{Cause}
use Rattle.sspi_core.specs.declared.cause.Cause.TheVariants.{Memory}
use Rattle.sspi_core.specs.declared.error.Error.{Error}
use Rattle.sspi_core.specs.declared.error.Place.TheVariants.{Elsewhere}
use Rattle.sspi_core.specs.Checks.{told}
use Rattle.sspi_core.specs.Kinds.{error_of}

-- an answer that is computed
pub record Hands {A : Type 0} (outcome : Result A Cause) (answer : Result A Cause) : Type 0 where
  pub is : answer ≡ outcome

-- The result of a call is the answer of the checks, each refusal with the kind of its cause, unless memory runs out.
pub record Tells {A : Type 0} (checks : Result A Cause → Type 0) (result : Result A Error) : Type 0 where
  pub so : (result ≡ Err (error_of Memory) → ⊥) → (answer : Result A Cause) × checks answer × (result ≡ told Elsewhere answer)
