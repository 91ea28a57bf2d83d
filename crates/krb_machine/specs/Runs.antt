-- A run of either kind, by cases.
use Rattle.std.specs.Prelude.{ℕ, List, Result}
use Rattle.krb_as.specs.declared.done.InitDone.{InitDone}
use Rattle.krb_initiator.specs.InitRuns as initiations
use Rattle.krb_user_to_user.specs.AcceptRuns as acceptances
use Rattle.sspi_core.specs.declared.draw.Draw.{Draw}
use Rattle.sspi_core.specs.declared.error.Error.{Error}
use Rattle.sspi_generator.specs.declared.network.NetFault.{NetFault}
use Rattle.sspi_generator.specs.declared.network.NetworkRequest.{NetworkRequest}
use Rattle.sspi_generator.specs.declared.task.GeneratorState.{GeneratorState}
use Rattle.krb_machine.specs.declared.run.Run.{Run}
use Rattle.krb_machine.specs.declared.run.Run.TheVariants.{Accepts, Initiates}

-- a run is not started; a run waits for an answer
abbrev pub IsNew : Run → Type 0
IsNew (Accepts run) = acceptances.IsNew run
IsNew (Initiates run) = initiations.IsNew run

abbrev pub IsWaiting : Run → Type 0
IsWaiting (Accepts run) = acceptances.IsWaiting run
IsWaiting (Initiates run) = initiations.IsWaiting run

-- the two steps of a run, which stays of its kind
abbrev pub StartsAt : Run → Draw → GeneratorState NetworkRequest (Result InitDone Error) → Run → Type 0
StartsAt (Accepts old) draw state (Accepts new) = acceptances.StartsAt old draw state new
StartsAt (Accepts old) draw state (Initiates new) = ⊥
StartsAt (Initiates old) draw state (Accepts new) = ⊥
StartsAt (Initiates old) draw state (Initiates new) = initiations.StartsAt old draw state new

abbrev pub ResumesAt : Run → Result (List ℕ) NetFault → Draw → GeneratorState NetworkRequest (Result InitDone Error) → Run → Type 0
ResumesAt (Accepts old) answer draw state (Accepts new) = acceptances.ResumesAt old answer draw state new
ResumesAt (Accepts old) answer draw state (Initiates new) = ⊥
ResumesAt (Initiates old) answer draw state (Accepts new) = ⊥
ResumesAt (Initiates old) answer draw state (Initiates new) = initiations.ResumesAt old answer draw state new
