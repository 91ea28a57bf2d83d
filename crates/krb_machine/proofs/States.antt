-- A run after a step that stopped.
use Rattle.std.proofs.Common.{◌≡◌, Result, Err}
use Rattle.krb_as.specs.declared.done.InitDone.{InitDone}
use Rattle.krb_as.specs.Turns.{IsWant}
use Rattle.sspi_core.specs.Kinds.{error_of}
use Rattle.sspi_core.specs.declared.cause.Cause.TheVariants.{Memory}
use Rattle.sspi_core.specs.declared.error.Error.{Error}
use Rattle.sspi_generator.specs.Steps.{OnCompleted}
use Rattle.sspi_generator.specs.declared.network.NetworkRequest.{NetworkRequest}
use Rattle.sspi_generator.specs.declared.task.GeneratorState.{GeneratorState}
use Rattle.sspi_generator.specs.declared.task.GeneratorState.TheVariants.{Suspended, Completed}

abbrev State : Type 0
State = GeneratorState NetworkRequest (Result InitDone Error)

-- the run is as before if memory ran out
same_out : (a b : Result InitDone Error) → ◌≡◌ {A = State} (Completed a) (Completed b) → a ≡ b
same_out a b h = cc

pub kept_of : (K : Type 0) (state : State) → OnCompleted state (λ out. IsWant out → K) → state ≡ Completed (Err (error_of Memory)) → K
kept_of K (Suspended request) h e = absurd cc
kept_of K (Completed out) h e = h (same_out out (Err (error_of Memory)) e)
