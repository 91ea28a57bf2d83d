-- The change of a password, as a task.
use Rattle.std.specs.Prelude.{◌≡◌, ℕ, ◌+◌, List, Result, Ok, Err}
use Rattle.krb_context.specs.declared.context.ContextChange.{ContextChange}
use Rattle.sspi_core.specs.declared.draw.Draw.{Draw}
use Rattle.sspi_core.specs.declared.error.Error.{Error}
use Rattle.sspi_core.specs.declared.cause.Cause.{Cause}
use Rattle.sspi_core.specs.Kinds.{error_of}
use Rattle.sspi_generator.specs.declared.network.NetworkRequest.{NetworkRequest}
use Rattle.sspi_generator.specs.declared.network.NetFault.{NetFault}
use Rattle.sspi_generator.specs.declared.task.GeneratorState.{GeneratorState}
use Rattle.krb_as.specs.declared.asker.Asker.{Asker}
use Rattle.krb_as.specs.declared.turn.Turn.{Turn}
use Rattle.krb_as.specs.AsPhases as as_phases
use Rattle.krb_as.specs.AsPhases.{BeginsWithin, TakesReplyWithin, kdc_of}
use Rattle.krb_as.specs.Turns.{Turns}
use Rattle.krb_password_change.specs.declared.change.Changer.{Changer}
use Rattle.krb_password_change.specs.declared.phase.ChangePhase.{ChangePhase}
use Rattle.krb_password_change.specs.declared.phase.ChangePhase.TheVariants.{New, InAsExchange, AwaitsAnswer, Over}
use Rattle.krb_password_change.specs.declared.change_run.ChangePasswordRun.{ChangePasswordRun}
use Rattle.krb_password_change.specs.Changes.{IsReady}
use Rattle.krb_password_change.specs.ChangeSteps.{body_of, AsksChange, TakesAnswer}

-- the turn after the start, and the turn after a reply, in each phase
abbrev pub Starts : Changer → ChangePhase → Draw → Result (Turn ChangePhase ContextChange) Cause → Type 0
Starts changer New draw answer = BeginsWithin InAsExchange changer.asker (body_of changer.client draw) answer
Starts changer (InAsExchange phase) draw answer = ⊥
Starts changer (AwaitsAnswer leg) draw answer = ⊥
Starts changer Over draw answer = ⊥

abbrev pub Next : Changer → ChangePhase → Result (List ℕ) NetFault → Draw → Result (Turn ChangePhase ContextChange) Cause → Type 0
Next changer New reply draw answer = ⊥
Next changer (InAsExchange phase) reply draw answer =
    TakesReplyWithin InAsExchange (AsksChange changer (kdc_of phase) draw) changer.asker phase reply draw answer
Next changer (AwaitsAnswer leg) reply draw answer = TakesAnswer changer leg reply answer
Next changer Over reply draw answer = ⊥

-- the two steps of the task: the changer stays, and the phase goes on
pub record StartsAt (old : ChangePasswordRun) (draw : Draw) (state : GeneratorState NetworkRequest (Result ContextChange Error))
    (new : ChangePasswordRun) : Type 0 where
  pub turn : Turns Over (Starts old.changer old.phase draw) state new.phase
  pub stays : new.changer ≡ old.changer

pub record ResumesAt (old : ChangePasswordRun) (reply : Result (List ℕ) NetFault) (draw : Draw)
    (state : GeneratorState NetworkRequest (Result ContextChange Error)) (new : ChangePasswordRun) : Type 0 where
  pub turn : Turns Over (Next old.changer old.phase reply draw) state new.phase
  pub stays : new.changer ≡ old.changer

-- it is not started; it awaits an answer; and how often it may still ask. What is to be sent can be
abbrev pub IsNewPhase : ChangePhase → Type 0
IsNewPhase New = Unit {0}
IsNewPhase (InAsExchange phase) = ⊥
IsNewPhase (AwaitsAnswer leg) = ⊥
IsNewPhase Over = ⊥

abbrev pub IsAwaiting : Asker → ChangePhase → Type 0
IsAwaiting asker New = ⊥
IsAwaiting asker (InAsExchange phase) = as_phases.IsAwaiting asker phase
IsAwaiting asker (AwaitsAnswer leg) = Unit {0}
IsAwaiting asker Over = ⊥

abbrev pub turns_left : ChangePhase → ℕ
turns_left New = 3
turns_left (InAsExchange phase) = as_phases.turns_left phase + 1
turns_left (AwaitsAnswer leg) = 0
turns_left Over = 0

abbrev pub IsNew : ChangePasswordRun → Type 0
IsNew run = IsNewPhase run.phase × IsReady run.changer

abbrev pub IsWaiting : ChangePasswordRun → Type 0
IsWaiting run = IsAwaiting run.changer.asker run.phase × IsReady run.changer

-- the run that begins so, or the refusal with its kind
abbrev pub BeginsSo : Result Changer Cause → Result ChangePasswordRun Error → Type 0
BeginsSo (Ok changer) (Ok run) = (run.changer ≡ changer) × (run.phase ≡ New)
BeginsSo (Ok changer) (Err error) = ⊥
BeginsSo (Err cause) (Ok run) = ⊥
BeginsSo (Err cause) (Err error) = error ≡ error_of cause
