-- How the checks of a step become a turn of a task, and how those see its end that run any task.
use Rattle.std.specs.Prelude.{◌≡◌, ◌<◌, ℕ, Bool, true, false, List, Result, Ok, Err}
use Rattle.sspi_core.specs.declared.cause.Cause.{Cause}
use Rattle.sspi_core.specs.declared.cause.Cause.TheVariants.{Memory, Network}
use Rattle.sspi_core.specs.declared.error.Error.{Error}
use Rattle.sspi_core.specs.Checks.{Gives}
use Rattle.sspi_core.specs.Kinds.{error_of}
use Rattle.sspi_generator.specs.declared.network.NetworkRequest.{NetworkRequest}
use Rattle.sspi_generator.specs.declared.network.NetFault.{NetFault}
use Rattle.sspi_generator.specs.declared.network.NetFault.TheVariants.{Failed, OutOfMemory}
use Rattle.sspi_generator.specs.declared.task.GeneratorState.{GeneratorState}
use Rattle.sspi_generator.specs.declared.task.GeneratorState.TheVariants.{Suspended, Completed}
use Rattle.krb_as.specs.declared.turn.Turn.{Turn}
use Rattle.krb_as.specs.declared.turn.Turn.TheVariants.{Asks, Ends}

-- where a step ends that the checks answered so, and the phase afterwards: at a request with the phase that awaits its answer, or over
abbrev pub state_of : {P O : Type 0} → Result (Turn P O) Cause → GeneratorState NetworkRequest (Result O Error)
state_of (Ok (Asks request phase)) = Suspended request
state_of (Ok (Ends value)) = Completed (Ok value)
state_of (Err cause) = Completed (Err (error_of cause))

abbrev pub phase_of : {P O : Type 0} → P → Result (Turn P O) Cause → P
phase_of over (Ok (Asks request phase)) = phase
phase_of over (Ok (Ends value)) = over
phase_of over (Err cause) = over

-- a step of a task is what the checks answer, unless memory runs out
pub record Turns {P O : Type 0} (over : P) (checks : Result (Turn P O) Cause → Type 0)
    (state : GeneratorState NetworkRequest (Result O Error)) (phase : P) : Type 0 where
  pub so : (state ≡ Completed (Err (error_of Memory)) → ⊥) → (answer : Result (Turn P O) Cause) × checks answer × (state ≡ state_of answer)
      × (phase ≡ phase_of over answer)

-- a step of what a run contains: where that asks the run asks, and where it ends the run goes on
abbrev pub Within : {P Q A B : Type 0} → (P → Q) → (A → Result (Turn Q B) Cause → Type 0) → Turn P A → Result (Turn Q B) Cause → Type 0
Within within next (Asks request phase) answer = Gives (Asks request (within phase)) answer
Within within next (Ends value) answer = next value answer

-- a step that ends at a request leaves a phase that waits, and fewer turns
abbrev pub GoesDown : {P O : Type 0} → (P → Type 0) → (P → ℕ) → ℕ → Turn P O → Type 0
GoesDown waits turns_left turns (Asks request phase) = waits phase × (turns_left phase < turns)
GoesDown waits turns_left turns (Ends value) = Unit {0}

-- an end because memory ran out
abbrev pub IsWant : {O : Type 0} → Result O Error → Type 0
IsWant out = out ≡ Err (error_of Memory)

-- an end because the network failed
abbrev pub IsFault : {O : Type 0} → Result O Error → Type 0
IsFault out = (code : ℕ) × (out ≡ Err (error_of (Network code)))

-- the network client ran out of memory
abbrev pub is_want : Result (List ℕ) NetFault → Bool
is_want (Ok octets) = false
is_want (Err (Failed code)) = false
is_want (Err OutOfMemory) = true
