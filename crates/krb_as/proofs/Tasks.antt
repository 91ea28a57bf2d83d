-- From the checks of a step to the task's step.
use Rattle.std.proofs.Common.{◌≡◌, ℕ, ◌<◌, ◌≤◌, Result, Ok, Err, refl, sym, ap, ◌∙◌, subst, arith}
use Rattle.std.specs.Prelude.{IfOk}
use Rattle.sspi_core.specs.declared.cause.Cause.{Cause}
use Rattle.sspi_core.specs.declared.cause.Cause.TheVariants.{Memory, Network}
use Rattle.sspi_core.specs.declared.error.Error.{Error}
use Rattle.sspi_core.specs.Kinds.{error_of}
use Rattle.sspi_core.specs.Checks.{Answers}
use Rattle.sspi_core.proofs.Chain.{same_err}
use Rattle.sspi_generator.specs.declared.network.NetworkRequest.{NetworkRequest}
use Rattle.sspi_generator.specs.declared.task.GeneratorState.{GeneratorState}
use Rattle.sspi_generator.specs.declared.task.GeneratorState.TheVariants.{Suspended, Completed}
use Rattle.sspi_generator.specs.Steps.{OnSuspended, OnCompleted}
use Rattle.krb_as.specs.declared.turn.Turn.{Turn}
use Rattle.krb_as.specs.declared.turn.Turn.TheVariants.{Asks, Ends}
use Rattle.krb_as.specs.Turns.{Turns, state_of, phase_of, GoesDown, IsWant, IsFault}
use Rattle.krb_as.proofs.Refusals.{IsNetwork}

-- a step is what its checks answer
pub turns_of : {P O : Type 0} (over : P) (checks : Result (Turn P O) Cause → Type 0) (answer : Result (Turn P O) Cause) (state : GeneratorState NetworkRequest (Result O Error)) (new : P)
    → Answers checks answer → state ≡ state_of answer → ((answer ≡ Err Memory → ⊥) → new ≡ phase_of over answer) → Turns over checks state new
turns_of over checks answer state new h is goes = record {
  so = λ ne. let other : answer ≡ Err Memory → ⊥ = λ z. ne (is ∙ ap state_of z) in (answer, h.so other, is, goes other);
}

-- a step that asks leaves a phase that waits, and fewer turns
module _ {P O : Type 0} (waits : P → Type 0) (left : P → ℕ) (R : P → Type 0) (leads : (phase : P) → waits phase → R phase) (over : P) where
  awaits : (answer : Result (Turn P O) Cause) (n : ℕ) (new : P) → IfOk answer (λ turn. GoesDown waits left n turn) → ((answer ≡ Err Memory → ⊥) → new ≡ phase_of over answer)
      → OnSuspended (state_of answer) (λ request. R new × (left new < n))
  awaits (Ok (Asks request phase)) n new down goes =
      let same : new ≡ phase = goes (λ z. absurd cc) in
      subst (λ (p : P). R p × (left p < n)) (sym same) (leads phase down.0, down.1)
  awaits (Ok (Ends value)) n new down goes = tt
  awaits (Err cause) n new down goes = tt

  pub awaits_of : (answer : Result (Turn P O) Cause) (state : GeneratorState NetworkRequest (Result O Error)) (n : ℕ) (new : P) → state ≡ state_of answer
      → IfOk answer (λ turn. GoesDown waits left n turn) → ((answer ≡ Err Memory → ⊥) → new ≡ phase_of over answer) → OnSuspended state (λ request. R new × (left new < n))
  awaits_of answer state n new is down goes =
      subst (λ (s : GeneratorState NetworkRequest (Result O Error)). OnSuspended s (λ request. R new × (left new < n))) (sym is) (awaits answer n new down goes)

-- a step whose checks leave fewer turns where they ask leaves fewer turns
module _ {P O : Type 0} (over : P) (checks : Result (Turn P O) Cause → Type 0) (left : P → ℕ) (n : ℕ)
    (down : (request : NetworkRequest) (phase : P) → checks (Ok (Asks request phase)) → left phase < n) where
  behind_answer : (request : NetworkRequest) (new : P) (answer : Result (Turn P O) Cause) → checks answer → ◌≡◌ {A = GeneratorState NetworkRequest (Result O Error)} (Suspended request) (state_of answer)
      → new ≡ phase_of over answer → Unit {0} × (left new < n)
  behind_answer request new (Ok (Asks made phase)) h is goes = (tt, subst (λ (p : P). left p < n) (sym goes) (down made phase h))
  behind_answer request new (Ok (Ends value)) h is goes = absurd cc
  behind_answer request new (Err cause) h is goes = absurd cc

  pub turns_down : (state : GeneratorState NetworkRequest (Result O Error)) (new : P) → Turns over checks state new → OnSuspended state (λ request. Unit {0} × (left new < n))
  turns_down (Completed out) new t = tt
  turns_down (Suspended request) new t = let s = t.so (λ z. absurd cc) in behind_answer request new s.0 s.1 s.2 s.3

-- a step that leaves few turns leaves no more than that
module _ {P O : Type 0} (waits R : P → Type 0) (left : P → ℕ) (m n : ℕ) (leads : (phase : P) → waits phase → R phase) (few : m ≤ n) where
  turn_down : (turn : Turn P O) → GoesDown waits left m turn → GoesDown R left n turn
  turn_down (Asks request phase) down = (leads phase down.0, let h = down.1 in omega (arith, h, few))
  turn_down (Ends value) down = tt

  pub down_as : (answer : Result (Turn P O) Cause) → IfOk answer (λ turn. GoesDown waits left m turn) → IfOk answer (λ turn. GoesDown R left n turn)
  down_as (Ok turn) down = turn_down turn down
  down_as (Err cause) down = tt

-- an error has its cause
same_cause : {O : Type 0} (d e : Cause) → ◌≡◌ {A = Result O Error} (Err (error_of d)) (Err (error_of e)) → d ≡ e
same_cause {O} d e h = ap (λ (x : Error). x.cause) (same_err {A = O} (error_of d) (error_of e) h)

-- where memory ran out nothing was changed
kept : {P O : Type 0} (answer : Result (Turn P O) Cause) (Q : Type 0) → (answer ≡ Err Memory → Q) → OnCompleted (state_of answer) (λ out. IsWant out → Q)
kept (Ok (Asks request phase)) Q keeps = tt
kept (Ok (Ends value)) Q keeps = λ z. absurd cc
kept {P} {O} (Err cause) Q keeps = λ z. keeps (ap Err (same_cause {O = O} cause Memory z))

pub kept_of : {P O : Type 0} (answer : Result (Turn P O) Cause) (state : GeneratorState NetworkRequest (Result O Error)) (Q : Type 0) → state ≡ state_of answer → (answer ≡ Err Memory → Q) → OnCompleted state (λ out. IsWant out → Q)
kept_of {P} {O} answer state Q is keeps = subst (λ (s : GeneratorState NetworkRequest (Result O Error)). OnCompleted s (λ out. IsWant out → Q)) (sym is) (kept answer Q keeps)

-- an end because of the network is the answer of checks that refuse so
faulted : {P O : Type 0} (answer : Result (Turn P O) Cause) (Q : Type 0) → ((cause : Cause) → answer ≡ Err cause → IsNetwork cause → Q) → OnCompleted (state_of answer) (λ out. IsFault out → Q)
faulted (Ok (Asks request phase)) Q refuses = tt
faulted (Ok (Ends value)) Q refuses = λ z. let e = z.1 in absurd cc
faulted {P} {O} (Err cause) Q refuses = λ z. refuses cause refl (z.0, same_cause {O = O} cause (Network z.0) z.1)

pub faulted_of : {P O : Type 0} (answer : Result (Turn P O) Cause) (state : GeneratorState NetworkRequest (Result O Error)) (Q : Type 0) → state ≡ state_of answer → ((cause : Cause) → answer ≡ Err cause → IsNetwork cause → Q) → OnCompleted state (λ out. IsFault out → Q)
faulted_of {P} {O} answer state Q is refuses = subst (λ (s : GeneratorState NetworkRequest (Result O Error)). OnCompleted s (λ out. IsFault out → Q)) (sym is) (faulted answer Q refuses)

-- checks that were answered so, where that is not out of memory
pub refused : {A : Type 0} (checks : Result A Cause → Type 0) (answer : Result A Cause) (cause : Cause) → Answers checks answer → answer ≡ Err cause → IsNetwork cause → checks (Err cause)
refused {A} checks answer cause h is network =
    subst (λ (r : Result A Cause). checks r) is (h.so (λ z. let e : cause ≡ Memory = same_err {A = A} cause Memory (sym is ∙ z) in let f = network.1 in absurd cc))
