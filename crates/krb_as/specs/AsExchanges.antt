-- The AS exchange as a task of its own, which ends with the AS-REP.
use Rattle.std.specs.Prelude.{◌≡◌, ℕ, ◌≤◌, ◌^◌, List, length, Result, Ok, Err}
use Rattle.krb_exchange.specs.declared.kdc_rep.AsRep.{AsRep}
use Rattle.krb_exchange.specs.Layouts.{as_rep_layout, kdc_req_body_layout}
use Rattle.sspi_core.specs.declared.protocol.NetworkProtocol.{NetworkProtocol}
use Rattle.sspi_core.specs.declared.draw.Draw.{Draw}
use Rattle.sspi_core.specs.declared.error.Error.{Error}
use Rattle.sspi_core.specs.declared.cause.Cause.{Cause}
use Rattle.sspi_core.specs.declared.cause.Cause.TheVariants.{EarlyAsRep}
use Rattle.sspi_core.specs.Checks.{Holds, Gives, ◌>>=◌, ◌>>◌}
use Rattle.krb_context.specs.declared.rules.Rules.{Rules}
use Rattle.krb_context.specs.Rules.{has_rule, no_preauthentication}
use Rattle.sspi_generator.specs.declared.network.NetworkRequest.{NetworkRequest}
use Rattle.sspi_generator.specs.declared.network.NetFault.{NetFault}
use Rattle.sspi_generator.specs.declared.task.GeneratorState.{GeneratorState}
use Rattle.krb_requests.specs.Pieces.{Fits}
use Rattle.krb_as.specs.declared.turn.Turn.{Turn}
use Rattle.krb_as.specs.declared.turn.Turn.TheVariants.{Ends}
use Rattle.krb_as.specs.declared.asker.Asker.{Asker}
use Rattle.krb_as.specs.declared.as_phase.AsPhase.TheVariants.{AwaitsError, AwaitsAsRep}
use Rattle.krb_as.specs.declared.as_exchange.ExchangePhase.{ExchangePhase}
use Rattle.krb_as.specs.declared.as_exchange.ExchangePhase.TheVariants.{New, InAsExchange, Over}
use Rattle.krb_as.specs.declared.as_exchange.AsDone.{AsDone}
use Rattle.krb_as.specs.declared.as_exchange.AsExchange.{AsExchange}
use Rattle.krb_as.specs.Turns.{Turns}
use Rattle.krb_as.specs.Askers.{default_salt}
use Rattle.krb_as.specs.Replied.{TakesFirst, Grants}
use Rattle.krb_as.specs.AsPhases as as_phases
use Rattle.krb_as.specs.AsPhases.{BeginsWithin, AsksSecond}

-- the end with an AS-REP, where there is a salt
abbrev pub end_in : AsRep → Result (List ℕ) Cause → Result (Turn ExchangePhase AsDone) Cause
end_in as_rep (Ok salt) = Ok (Ends (record { as_rep = as_rep; salt = salt }))
end_in as_rep (Err cause) = Err cause

-- the salt of an AS-REP that came at once, where it may
unfoldable pub LeavesEarly : Rules → List ℕ → Result (List ℕ) Cause → Type 0
LeavesEarly rules default = do
  Holds EarlyAsRep (has_rule rules no_preauthentication)
  Gives default

-- the AS-REP ends it, with the salt of the key that the time was sealed under
abbrev pub EndsWith : List ℕ → AsRep → Result (Turn ExchangePhase AsDone) Cause → Type 0
EndsWith salt as_rep answer = Gives (Ends (record { as_rep = as_rep; salt = salt })) answer

unfoldable pub EndsWithAsRep : NetworkProtocol → List ℕ → Result (List ℕ) NetFault → Result (Turn ExchangePhase AsDone) Cause → Type 0
EndsWithAsRep protocol salt reply = do
  as_rep ← Grants protocol as_rep_layout reply
  EndsWith salt as_rep

-- what the start leads to, and what an answer leads to, in each phase
abbrev pub Starts : Asker → ExchangePhase → Result (Turn ExchangePhase AsDone) Cause → Type 0
Starts asker (New body) answer = BeginsWithin InAsExchange asker body answer
Starts asker (InAsExchange phase) answer = ⊥
Starts asker Over answer = ⊥

abbrev pub Next : Asker → ExchangePhase → Result (List ℕ) NetFault → Draw → Result (Turn ExchangePhase AsDone) Cause → Type 0
Next asker (New body) reply draw answer = ⊥
Next asker (InAsExchange (AwaitsError kdc body)) reply draw answer =
    TakesFirst asker.rules kdc.protocol (AsksSecond InAsExchange asker kdc body draw) (EndsWith (default_salt asker.credentials)) reply answer
Next asker (InAsExchange (AwaitsAsRep sealed)) reply draw answer = EndsWithAsRep sealed.kdc.protocol sealed.salt reply answer
Next asker Over reply draw answer = ⊥

-- the two steps of the task: who asks stays, and the phase goes on
pub record StartsAt (old : AsExchange) (draw : Draw) (state : GeneratorState NetworkRequest (Result AsDone Error)) (new : AsExchange) : Type 0 where
  pub turn : Turns Over (Starts old.asker old.phase) state new.phase
  pub stays : new.asker ≡ old.asker

pub record ResumesAt (old : AsExchange) (reply : Result (List ℕ) NetFault) (draw : Draw)
    (state : GeneratorState NetworkRequest (Result AsDone Error)) (new : AsExchange) : Type 0 where
  pub turn : Turns Over (Next old.asker old.phase reply draw) state new.phase
  pub stays : new.asker ≡ old.asker

-- it is not started; it awaits an answer; and how often it may still ask. What is to be sent can be
abbrev pub IsNewPhase : ExchangePhase → Type 0
IsNewPhase (New body) = Fits kdc_req_body_layout (2 ^ 28) body
IsNewPhase (InAsExchange phase) = ⊥
IsNewPhase Over = ⊥

abbrev pub IsAwaiting : Asker → ExchangePhase → Type 0
IsAwaiting asker (New body) = ⊥
IsAwaiting asker (InAsExchange phase) = as_phases.IsAwaiting asker phase
IsAwaiting asker Over = ⊥

abbrev pub turns_left : ExchangePhase → ℕ
turns_left (New body) = 2
turns_left (InAsExchange phase) = as_phases.turns_left phase
turns_left Over = 0

abbrev pub IsNew : AsExchange → Type 0
IsNew exchange = IsNewPhase exchange.phase × (length exchange.asker.realm ≤ 2 ^ 24)

abbrev pub IsWaiting : AsExchange → Type 0
IsWaiting exchange = IsAwaiting exchange.asker exchange.phase
