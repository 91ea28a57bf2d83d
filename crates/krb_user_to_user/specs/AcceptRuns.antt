-- The exchange in which a service fetches its ticket, as a task.
use Rattle.std.specs.Prelude.{◌≡◌, ℕ, ◌≤◌, ◌^◌, List, length, Result, Ok, Err}
use Rattle.sspi_core.specs.declared.draw.Draw.{Draw}
use Rattle.sspi_core.specs.declared.error.Error.{Error}
use Rattle.sspi_core.specs.declared.cause.Cause.{Cause}
use Rattle.sspi_core.specs.Kinds.{error_of}
use Rattle.sspi_generator.specs.declared.network.NetworkRequest.{NetworkRequest}
use Rattle.sspi_generator.specs.declared.network.NetFault.{NetFault}
use Rattle.sspi_generator.specs.declared.task.GeneratorState.{GeneratorState}
use Rattle.krb_as.specs.declared.turn.Turn.{Turn}
use Rattle.krb_as.specs.declared.asker.Asker.{Asker}
use Rattle.krb_as.specs.declared.done.InitDone.{InitDone}
use Rattle.krb_as.specs.Turns.{Turns}
use Rattle.krb_as.specs.Clients.{IsShort}
use Rattle.krb_as.specs.AsPhases as as_phases
use Rattle.krb_as.specs.AsPhases.{BeginsWithin, TakesReplyWithin}
use Rattle.krb_user_to_user.specs.declared.request.Acceptor.{Acceptor}
use Rattle.krb_user_to_user.specs.declared.request.Beginning.{Beginning}
use Rattle.krb_user_to_user.specs.declared.steps.AcceptPhase.{AcceptPhase}
use Rattle.krb_user_to_user.specs.declared.steps.AcceptPhase.TheVariants.{New, InAsExchange, Over}
use Rattle.krb_user_to_user.specs.declared.accept_run.AcceptRun.{AcceptRun}
use Rattle.krb_user_to_user.specs.AcceptSteps.{body_of, EndsWithTicket}

-- the turn after the start, and the turn after a reply, in each phase
abbrev pub Starts : Acceptor → AcceptPhase → Draw → Result (Turn AcceptPhase InitDone) Cause → Type 0
Starts acceptor (New client) draw answer = BeginsWithin InAsExchange acceptor.asker (body_of client draw) answer
Starts acceptor (InAsExchange phase) draw answer = ⊥
Starts acceptor Over draw answer = ⊥

abbrev pub Next : Acceptor → AcceptPhase → Result (List ℕ) NetFault → Draw → Result (Turn AcceptPhase InitDone) Cause → Type 0
Next acceptor (New client) reply draw answer = ⊥
Next acceptor (InAsExchange phase) reply draw answer =
    TakesReplyWithin InAsExchange (EndsWithTicket acceptor) acceptor.asker phase reply draw answer
Next acceptor Over reply draw answer = ⊥

-- the two steps of the task: the acceptor stays, and the phase changes
pub record StartsAt (old : AcceptRun) (draw : Draw) (state : GeneratorState NetworkRequest (Result InitDone Error)) (new : AcceptRun) : Type 0 where
  pub turn : Turns Over (Starts old.acceptor old.phase draw) state new.phase
  pub stays : new.acceptor ≡ old.acceptor

pub record ResumesAt (old : AcceptRun) (reply : Result (List ℕ) NetFault) (draw : Draw)
    (state : GeneratorState NetworkRequest (Result InitDone Error)) (new : AcceptRun) : Type 0 where
  pub turn : Turns Over (Next old.acceptor old.phase reply draw) state new.phase
  pub stays : new.acceptor ≡ old.acceptor

-- a phase that has not started and a phase that awaits a reply, whose requests can be sent; and the number of requests that are left
abbrev pub IsNewPhase : AcceptPhase → Type 0
IsNewPhase (New client) = IsShort client
IsNewPhase (InAsExchange phase) = ⊥
IsNewPhase Over = ⊥

abbrev pub IsAwaiting : Asker → AcceptPhase → Type 0
IsAwaiting asker (New client) = ⊥
IsAwaiting asker (InAsExchange phase) = as_phases.IsAwaiting asker phase
IsAwaiting asker Over = ⊥

abbrev pub turns_left : AcceptPhase → ℕ
turns_left (New client) = 2
turns_left (InAsExchange phase) = as_phases.turns_left phase
turns_left Over = 0

abbrev pub IsNew : AcceptRun → Type 0
IsNew run = IsNewPhase run.phase × (length run.acceptor.asker.realm ≤ 2 ^ 24)

abbrev pub IsWaiting : AcceptRun → Type 0
IsWaiting run = IsAwaiting run.acceptor.asker run.phase

-- the run of this beginning, or the refusal with its kind
abbrev pub BeginsSo : Result Beginning Cause → Result AcceptRun Error → Type 0
BeginsSo (Ok beginning) (Ok run) = (run.acceptor ≡ beginning.acceptor) × (run.phase ≡ New beginning.client)
BeginsSo (Ok beginning) (Err error) = ⊥
BeginsSo (Err cause) (Ok run) = ⊥
BeginsSo (Err cause) (Err error) = error ≡ error_of cause
