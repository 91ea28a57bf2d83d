-- An initiation as a task.
use Rattle.std.specs.Prelude.{◌≡◌, ℕ, ◌+◌, ◌-◌, List, Result, Ok, Err}
use Rattle.sspi_core.specs.declared.draw.Draw.{Draw}
use Rattle.sspi_core.specs.declared.error.Error.{Error}
use Rattle.sspi_core.specs.declared.cause.Cause.{Cause}
use Rattle.sspi_core.specs.Kinds.{error_of}
use Rattle.sspi_core.specs.Checks.{Gives}
use Rattle.sspi_generator.specs.declared.network.NetworkRequest.{NetworkRequest}
use Rattle.sspi_generator.specs.declared.network.NetFault.{NetFault}
use Rattle.sspi_generator.specs.declared.task.GeneratorState.{GeneratorState}
use Rattle.krb_as.specs.declared.turn.Turn.{Turn}
use Rattle.krb_as.specs.declared.turn.Turn.TheVariants.{Ends}
use Rattle.krb_as.specs.declared.done.InitDone.{InitDone}
use Rattle.krb_as.specs.declared.asker.Asker.{Asker}
use Rattle.krb_as.specs.AsPhases as as_phases
use Rattle.krb_as.specs.AsPhases.{BeginsWithin, TakesReplyWithin}
use Rattle.krb_as.specs.Turns.{Turns}
use Rattle.krb_initiator.specs.declared.seeker.Seeker.{Seeker}
use Rattle.krb_initiator.specs.declared.seeker.Initiation.{Initiation}
use Rattle.krb_initiator.specs.declared.seeker.Initiation.TheVariants.{Requests, Seeks, Hears}
use Rattle.krb_initiator.specs.declared.seeker.InitPhase.{InitPhase}
use Rattle.krb_initiator.specs.declared.seeker.InitPhase.TheVariants.{New, InAsExchange, AwaitsTgsRep, Over}
use Rattle.krb_initiator.specs.declared.init_run.InitRun.{InitRun}
use Rattle.krb_initiator.specs.Seekers.{CanSeek, CanBegin}
use Rattle.krb_initiator.specs.InitSteps.{body_of, AsksFirstTgs, TakesNext, requested, HearsAnswer}

-- the turn after the start: two of the three initiations end there
abbrev pub StartsNew : Initiation → Draw → Result (Turn InitPhase InitDone) Cause → Type 0
StartsNew (Requests initiator token) draw answer = Gives (Ends (requested initiator token)) answer
StartsNew (Seeks seeker) draw answer = BeginsWithin InAsExchange seeker.asker (body_of seeker draw) answer
StartsNew (Hears initiator token) draw answer = HearsAnswer initiator token draw answer

abbrev pub Starts : Initiation → InitPhase → Draw → Result (Turn InitPhase InitDone) Cause → Type 0
Starts initiation New draw answer = StartsNew initiation draw answer
Starts initiation (InAsExchange phase) draw answer = ⊥
Starts initiation (AwaitsTgsRep leg) draw answer = ⊥
Starts initiation Over draw answer = ⊥

-- the turn after a reply, in each phase
abbrev pub Continues : Seeker → InitPhase → Result (List ℕ) NetFault → Draw → Result (Turn InitPhase InitDone) Cause → Type 0
Continues seeker New reply draw answer = ⊥
Continues seeker (InAsExchange phase) reply draw answer =
    TakesReplyWithin InAsExchange (λ grant. AsksFirstTgs seeker grant draw) seeker.asker phase reply draw answer
Continues seeker (AwaitsTgsRep leg) reply draw answer = TakesNext seeker leg reply draw answer
Continues seeker Over reply draw answer = ⊥

abbrev pub Next : Initiation → InitPhase → Result (List ℕ) NetFault → Draw → Result (Turn InitPhase InitDone) Cause → Type 0
Next (Requests initiator token) phase reply draw answer = ⊥
Next (Seeks seeker) phase reply draw answer = Continues seeker phase reply draw answer
Next (Hears initiator token) phase reply draw answer = ⊥

-- the two steps of the task: the initiation stays, and the phase goes on
pub record StartsAt (old : InitRun) (draw : Draw) (state : GeneratorState NetworkRequest (Result InitDone Error)) (new : InitRun) : Type 0 where
  pub turn : Turns Over (Starts old.initiation old.phase draw) state new.phase
  pub stays : new.initiation ≡ old.initiation

pub record ResumesAt (old : InitRun) (reply : Result (List ℕ) NetFault) (draw : Draw)
    (state : GeneratorState NetworkRequest (Result InitDone Error)) (new : InitRun) : Type 0 where
  pub turn : Turns Over (Next old.initiation old.phase reply draw) state new.phase
  pub stays : new.initiation ≡ old.initiation

-- the number of requests that are still to come at most: two to an AS, and ten to a ticket-granting service
abbrev pub turns_left : InitPhase → ℕ
turns_left New = 12
turns_left (InAsExchange phase) = as_phases.turns_left phase + 10
turns_left (AwaitsTgsRep leg) = 9 - leg.hops
turns_left Over = 0

-- it is not started; it awaits an answer. What is to be sent can be
abbrev pub IsNewPhase : InitPhase → Type 0
IsNewPhase New = Unit {0}
IsNewPhase (InAsExchange phase) = ⊥
IsNewPhase (AwaitsTgsRep leg) = ⊥
IsNewPhase Over = ⊥

abbrev pub IsAtTgs : InitPhase → Type 0
IsAtTgs New = ⊥
IsAtTgs (InAsExchange phase) = ⊥
IsAtTgs (AwaitsTgsRep leg) = Unit {0}
IsAtTgs Over = ⊥

abbrev pub IsAwaiting : Asker → InitPhase → Type 0
IsAwaiting asker New = ⊥
IsAwaiting asker (InAsExchange phase) = as_phases.IsAwaiting asker phase
IsAwaiting asker (AwaitsTgsRep leg) = Unit {0}
IsAwaiting asker Over = ⊥

abbrev pub IsSeeking : Seeker → InitPhase → Type 0
IsSeeking seeker phase = IsAwaiting seeker.asker phase × CanSeek seeker

abbrev pub Waits : Initiation → InitPhase → Type 0
Waits (Requests initiator token) phase = ⊥
Waits (Seeks seeker) phase = IsSeeking seeker phase
Waits (Hears initiator token) phase = ⊥

abbrev pub IsNew : InitRun → Type 0
IsNew run = IsNewPhase run.phase × CanBegin run.initiation

abbrev pub IsWaiting : InitRun → Type 0
IsWaiting run = Waits run.initiation run.phase

-- the run that begins so, or the refusal with its kind
abbrev pub BeginsSo : Result Initiation Cause → Result InitRun Error → Type 0
BeginsSo (Ok initiation) (Ok run) = (run.initiation ≡ initiation) × (run.phase ≡ New)
BeginsSo (Ok initiation) (Err error) = ⊥
BeginsSo (Err cause) (Ok run) = ⊥
BeginsSo (Err cause) (Err error) = error ≡ error_of cause
