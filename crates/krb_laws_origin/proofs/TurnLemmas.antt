-- The connection after a step of an initiator's run.
use Rattle.std.proofs.Common.{◌≡◌, ℕ, List, Some, None, Result, Ok, Err, subst}
use Rattle.krb_as.specs.Turns.{Turns, state_of, phase_of}
use Rattle.krb_as.specs.declared.done.InitDone.{InitDone}
use Rattle.krb_as.specs.declared.turn.Turn.{Turn}
use Rattle.krb_as.specs.declared.turn.Turn.TheVariants.{Asks, Ends}
use Rattle.krb_context.specs.Contexts.{settled}
use Rattle.krb_machine.specs.Runs.{StartsAt, ResumesAt}
use Rattle.krb_machine.specs.Steps.{IsStep, BeginsRun, GoesOn}
use Rattle.krb_machine.specs.declared.exchange.Step.{Step}
use Rattle.krb_machine.specs.declared.run.Run.{Run}
use Rattle.krb_machine.specs.declared.run.Run.TheVariants.{Accepts, Initiates}
use Rattle.krb_initiator.specs.InitRuns.{Starts, Next}
use Rattle.krb_initiator.specs.declared.init_run.InitRun.{InitRun}
use Rattle.krb_initiator.specs.declared.seeker.InitPhase.{InitPhase}
use Rattle.krb_initiator.specs.declared.seeker.InitPhase.TheVariants.{Over}
use Rattle.sspi_core.specs.Kinds.{error_of}
use Rattle.sspi_core.specs.declared.cause.Cause.{Cause}
use Rattle.sspi_core.specs.declared.cause.Cause.TheVariants.{Memory}
use Rattle.sspi_core.specs.declared.draw.Draw.{Draw}
use Rattle.sspi_core.specs.declared.error.Error.{Error}
use Rattle.sspi_generator.specs.declared.network.NetFault.{NetFault}
use Rattle.sspi_generator.specs.declared.network.NetworkRequest.{NetworkRequest}
use Rattle.sspi_generator.specs.declared.task.GeneratorState.{GeneratorState}
use Rattle.sspi_generator.specs.declared.task.GeneratorState.TheVariants.{Suspended, Completed}
use Rattle.krb_machine.specs.Exchanges.{LeadsTo}
use Rattle.krb_machine.specs.declared.connection.Connection.{Connection}
use Rattle.krb_machine.specs.declared.reply.Reply.{Reply}

abbrev State : Type 0
State = GeneratorState NetworkRequest (Result InitDone Error)

abbrev pub Answer : Type 0
Answer = Result (Turn InitPhase InitDone) Cause

-- a step did not run out of memory
same_error : (d e : Error) → ◌≡◌ {A = State} (Completed (Err d)) (Completed (Err e)) → d ≡ e
same_error d e h = cc

fed : (state : State) (later : Run) (step : Step) → IsStep state later step → state ≡ Completed (Err (error_of Memory)) → ⊥
fed (Suspended request) later step h e = absurd cc
fed (Completed (Ok done)) later step h e = absurd cc
fed (Completed (Err error)) later step h e = h.1 (same_error error (error_of Memory) e)

-- a step follows from the answer of the checks, and the run's initiation is unchanged
pub record Turned (old : InitRun) (checks : Answer → Type 0) (step : Step) : Type 0 where
  pub later : InitRun
  pub stays : later.initiation ≡ old.initiation
  pub answer : Answer
  pub held : checks answer
  pub phase : later.phase ≡ phase_of Over answer
  pub leads : IsStep (state_of answer) (Initiates later) step

turned : (old later : InitRun) (checks : Answer → Type 0) (state : State) (step : Step) → Turns Over checks state later.phase → later.initiation ≡ old.initiation → IsStep state (Initiates later) step → Turned old checks step
turned old later checks state step turns stays leads =
    let so = turns.so (fed state (Initiates later) step leads) in
    record { later = later; stays = stays; answer = so.0; held = so.1; phase = so.3; leads = subst (λ (s : State). IsStep s (Initiates later) step) so.2 leads }

started : (old : InitRun) (draw : Draw) (state : State) (later : Run) (step : Step) → StartsAt (Initiates old) draw state later → IsStep state later step → Turned old (Starts old.initiation old.phase draw) step
started old draw state (Accepts later) step h leads = absurd h
started old draw state (Initiates later) step h leads = turned old later (Starts old.initiation old.phase draw) state step h.turn h.stays leads

resumed : (old : InitRun) (brought : Result (List ℕ) NetFault) (draw : Draw) (state : State) (later : Run) (step : Step) → ResumesAt (Initiates old) brought draw state later → IsStep state later step
    → Turned old (Next old.initiation old.phase brought draw) step
resumed old brought draw state (Accepts later) step h leads = absurd h
resumed old brought draw state (Initiates later) step h leads = turned old later (Next old.initiation old.phase brought draw) state step h.turn h.stays leads

pub begun : (old : InitRun) (draw : Draw) (step : Step) → BeginsRun (Initiates old) draw step → Turned old (Starts old.initiation old.phase draw) step
begun old draw step h = started old draw h.state h.later step h.starts h.leads

pub gone_on : (old : InitRun) (brought : Result (List ℕ) NetFault) (draw : Draw) (step : Step) → GoesOn (Initiates old) brought draw step → Turned old (Next old.initiation old.phase brought draw) step
gone_on old brought draw step h = resumed old brought draw h.state h.later step h.resumes h.leads

-- the connection after a step: it waits again, or takes the change, or is free
abbrev pub Lands : Connection → InitRun → Answer → Connection → Type 0
Lands connection later (Ok (Asks request phase)) next = (later.phase ≡ phase) × (next ≡ record connection { exchange = Some (Initiates later) })
Lands connection later (Ok (Ends done)) next = next ≡ record connection { context = settled connection.context done.change; exchange = None }
Lands connection later (Err cause) next = next ≡ record connection { exchange = None }

pub lands : (connection : Connection) (later : InitRun) (answer : Answer) (step : Step) (reply : Reply) (next : Connection) → later.phase ≡ phase_of Over answer → IsStep (state_of answer) (Initiates later) step
    → LeadsTo connection step reply next → Lands connection later answer next
lands connection later (Ok (Asks request phase)) step reply next is h k = (is, (subst (λ (s : Step). LeadsTo connection s reply next) h k).1)
lands connection later (Ok (Ends done)) step reply next is h k = (subst (λ (s : Step). LeadsTo connection s reply next) h k).1
lands connection later (Err cause) step reply next is h k = (subst (λ (s : Step). LeadsTo connection s reply next) h.0 k).1
