-- Each step of an exchange has at most one outcome.
use Rattle.std.proofs.Common.{◌≡◌, ℕ, List, Result, Ok, Err, sym, ap, ◌∙◌, subst}
use Rattle.krb_context.specs.declared.context.Kerberos.{Kerberos}
use Rattle.krb_as.specs.Turns.{Turns, state_of, phase_of}
use Rattle.krb_as.specs.declared.done.InitDone.{InitDone}
use Rattle.krb_as.specs.declared.turn.Turn.{Turn}
use Rattle.krb_initiator.proofs.Once as initiations
use Rattle.krb_initiator.specs.Beginnings.{BeginsInitiation}
use Rattle.krb_initiator.specs.declared.options.InitOptions.{InitOptions}
use Rattle.krb_initiator.specs.declared.seeker.Initiation.{Initiation}
use Rattle.krb_user_to_user.proofs.Once as acceptances
use Rattle.krb_user_to_user.specs.declared.accept_run.AcceptRun.{AcceptRun}
use Rattle.sspi_core.proofs.Once.{Once}
use Rattle.sspi_core.specs.Kinds.{error_of}
use Rattle.sspi_core.specs.declared.cause.Cause.{Cause}
use Rattle.sspi_core.specs.declared.cause.Cause.TheVariants.{Memory}
use Rattle.sspi_core.specs.declared.draw.Draw.{Draw}
use Rattle.sspi_core.specs.declared.error.Error.{Error}
use Rattle.sspi_generator.specs.declared.network.NetFault.{NetFault}
use Rattle.sspi_generator.specs.declared.network.NetworkRequest.{NetworkRequest}
use Rattle.sspi_generator.specs.declared.task.GeneratorState.{GeneratorState}
use Rattle.sspi_generator.specs.declared.task.GeneratorState.TheVariants.{Suspended, Completed}
use Rattle.krb_machine.specs.Runs.{StartsAt, ResumesAt}
use Rattle.krb_machine.specs.Steps.{IsStep, BeginsRun, GoesOn}
use Rattle.krb_machine.specs.declared.exchange.Step.{Step}
use Rattle.krb_machine.specs.declared.run.Run.{Run}
use Rattle.krb_machine.specs.declared.run.Run.TheVariants.{Accepts, Initiates}

abbrev State : Type 0
State = GeneratorState NetworkRequest (Result InitDone Error)

-- memory did not run out
abbrev IsFed : State → Type 0
IsFed state = state ≡ Completed (Err (error_of Memory)) → ⊥

-- if memory did not run out, checks of one answer lead to one state and one phase
turns_once : {P : Type 0} (over : P) (checks : Result (Turn P InitDone) Cause → Type 0) (s t : State) (p q : P) → Once checks → IsFed s → IsFed t → Turns over checks s p → Turns over checks t q → (s ≡ t) × (p ≡ q)
turns_once over checks s t p q one fed also h k =
    let x = h.so fed in
    let y = k.so also in
    let same = one.same x.0 y.0 x.1 y.1 in
    (x.2 ∙ ap state_of same ∙ sym y.2, x.3 ∙ ap (phase_of over) same ∙ sym y.3)

-- a run of an acceptor is determined by its acceptor and its phase
same_acceptance : (x y : AcceptRun) → x.acceptor ≡ y.acceptor → x.phase ≡ y.phase → x ≡ y
same_acceptance x y a p = ap (λ z. record { alloc = x.alloc; acceptor = z; phase = x.phase }) a ∙ ap (λ z. record { alloc = x.alloc; acceptor = y.acceptor; phase = z }) p

-- the two steps of a run
starts_once : (run : Run) (draw : Draw) (s t : State) (x y : Run) → IsFed s → IsFed t → StartsAt run draw s x → StartsAt run draw t y → (s ≡ t) × (x ≡ y)
starts_once (Accepts run) draw s t (Accepts x) (Accepts y) fed also h k =
    let both = turns_once _ _ s t x.phase y.phase (acceptances.starts_once run.acceptor run.phase draw) fed also h.turn k.turn in
    (both.0, ap Accepts (same_acceptance x y (h.stays ∙ sym k.stays) both.1))
starts_once (Accepts run) draw s t (Accepts x) (Initiates y) fed also h k = absurd k
starts_once (Accepts run) draw s t (Initiates x) y fed also h k = absurd h
starts_once (Initiates run) draw s t (Accepts x) y fed also h k = absurd h
starts_once (Initiates run) draw s t (Initiates x) (Accepts y) fed also h k = absurd k
starts_once (Initiates run) draw s t (Initiates x) (Initiates y) fed also h k =
    let both = turns_once _ _ s t x.phase y.phase (initiations.starts_once run.initiation run.phase draw) fed also h.turn k.turn in
    (both.0, ap Initiates (initiations.same_run x y (h.stays ∙ sym k.stays) both.1))

resumes_once : (run : Run) (answer : Result (List ℕ) NetFault) (draw : Draw) (s t : State) (x y : Run) → IsFed s → IsFed t → ResumesAt run answer draw s x → ResumesAt run answer draw t y → (s ≡ t) × (x ≡ y)
resumes_once (Accepts run) answer draw s t (Accepts x) (Accepts y) fed also h k =
    let both = turns_once _ _ s t x.phase y.phase (acceptances.next_once run.acceptor run.phase answer draw) fed also h.turn k.turn in
    (both.0, ap Accepts (same_acceptance x y (h.stays ∙ sym k.stays) both.1))
resumes_once (Accepts run) answer draw s t (Accepts x) (Initiates y) fed also h k = absurd k
resumes_once (Accepts run) answer draw s t (Initiates x) y fed also h k = absurd h
resumes_once (Initiates run) answer draw s t (Accepts x) y fed also h k = absurd h
resumes_once (Initiates run) answer draw s t (Initiates x) (Accepts y) fed also h k = absurd k
resumes_once (Initiates run) answer draw s t (Initiates x) (Initiates y) fed also h k =
    let both = turns_once _ _ s t x.phase y.phase (initiations.next_once run.initiation run.phase answer draw) fed also h.turn k.turn in
    (both.0, ap Initiates (initiations.same_run x y (h.stays ∙ sym k.stays) both.1))

-- a state that leads to a step is not that of missing memory
same_error : (d e : Error) → ◌≡◌ {A = State} (Completed (Err d)) (Completed (Err e)) → d ≡ e
same_error d e h = cc

is_fed : (state : State) (later : Run) (step : Step) → IsStep state later step → IsFed state
is_fed (Suspended request) later step h e = absurd cc
is_fed (Completed (Ok done)) later step h e = absurd cc
is_fed (Completed (Err error)) later step h e = h.1 (same_error error (error_of Memory) e)

-- a state and a run lead to one step
is_step_once : (state : State) (later : Run) (r s : Step) → IsStep state later r → IsStep state later s → r ≡ s
is_step_once (Suspended request) later r s h k = h ∙ sym k
is_step_once (Completed (Ok done)) later r s h k = h ∙ sym k
is_step_once (Completed (Err error)) later r s h k = h.0 ∙ sym k.0

steps_once : (s t : State) (x y : Run) (a b : Step) → (s ≡ t) × (x ≡ y) → IsStep s x a → IsStep t y b → a ≡ b
steps_once s t x y a b same h k = is_step_once s x a b h (subst (λ z. IsStep z x b) (sym same.0) (subst (λ z. IsStep t z b) (sym same.1) k))

pub one_beginning : (run : Run) (draw : Draw) (r s : Step) → BeginsRun run draw r → BeginsRun run draw s → r ≡ s
one_beginning run draw r s h k =
    let fed = is_fed h.state h.later r h.leads in
    let also = is_fed k.state k.later s k.leads in
    steps_once h.state k.state h.later k.later r s (starts_once run draw h.state k.state h.later k.later fed also h.starts k.starts) h.leads k.leads

pub one_going_on : (run : Run) (answer : Result (List ℕ) NetFault) (draw : Draw) (r s : Step) → GoesOn run answer draw r → GoesOn run answer draw s → r ≡ s
one_going_on run answer draw r s h k =
    let fed = is_fed h.state h.later r h.leads in
    let also = is_fed k.state k.later s k.leads in
    steps_once h.state k.state h.later k.later r s (resumes_once run answer draw h.state k.state h.later k.later fed also h.resumes k.resumes) h.leads k.leads

-- an initiator begins at most one initiation
pub one_initiation : (context : Kerberos) (options : InitOptions) (r s : Result Initiation Cause) → BeginsInitiation context options r → BeginsInitiation context options s → r ≡ s
one_initiation context options r s h k = (initiations.begins_once context options).same r s h k
