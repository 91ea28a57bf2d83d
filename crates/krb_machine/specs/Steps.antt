-- The steps of an exchange.
use Rattle.std.specs.Prelude.{◌≡◌, ◌≢◌, ℕ, List, Result, Ok, Err}
use Rattle.krb_as.specs.declared.done.InitDone.{InitDone}
use Rattle.sspi_core.specs.Kinds.{error_of}
use Rattle.sspi_core.specs.declared.cause.Cause.TheVariants.{Memory}
use Rattle.sspi_core.specs.declared.draw.Draw.{Draw}
use Rattle.sspi_core.specs.declared.error.Error.{Error}
use Rattle.sspi_generator.specs.declared.network.NetFault.{NetFault}
use Rattle.sspi_generator.specs.declared.network.NetworkRequest.{NetworkRequest}
use Rattle.sspi_generator.specs.declared.task.GeneratorState.{GeneratorState}
use Rattle.sspi_generator.specs.declared.task.GeneratorState.TheVariants.{Suspended, Completed}
use Rattle.krb_machine.specs.Runs.{StartsAt, ResumesAt}
use Rattle.krb_machine.specs.declared.exchange.Step.{Step}
use Rattle.krb_machine.specs.declared.exchange.Step.TheVariants.{Asks, Ends, Refused}
use Rattle.krb_machine.specs.declared.run.Run.{Run}

-- a run that stopped here: at a request whose answer it waits for, or at its end, of which running out of memory is none
abbrev pub IsStep : GeneratorState NetworkRequest (Result InitDone Error) → Run → Step → Type 0
IsStep (Suspended request) run step = step ≡ Asks request run
IsStep (Completed (Ok done)) run step = step ≡ Ends done
IsStep (Completed (Err error)) run step = (step ≡ Refused error) × (error ≢ error_of Memory)

-- an exchange begins
pub record BeginsRun (run : Run) (draw : Draw) (step : Step) : Type 0 where
  pub state : GeneratorState NetworkRequest (Result InitDone Error)
  pub later : Run
  pub starts : StartsAt run draw state later
  pub leads : IsStep state later step

-- an exchange goes on with the answer of the network
pub record GoesOn (run : Run) (answer : Result (List ℕ) NetFault) (draw : Draw) (step : Step) : Type 0 where
  pub state : GeneratorState NetworkRequest (Result InitDone Error)
  pub later : Run
  pub resumes : ResumesAt run answer draw state later
  pub leads : IsStep state later step
