-- A whole run of a task: its steps, and between them the answers of a client.
use Rattle.std.specs.Prelude.{◌≡◌, ◌<◌, ℕ, List, [], ◌∷◌, Result}
use Rattle.sspi_core.specs.declared.draw.Draw.{Draw}
use Rattle.sspi_generator.specs.declared.network.NetworkRequest.{NetworkRequest}
use Rattle.sspi_generator.specs.declared.network.NetFault.{NetFault}
use Rattle.sspi_generator.specs.declared.task.GeneratorState.{GeneratorState}
use Rattle.sspi_generator.specs.Faults.{HasCause}
use Rattle.sspi_generator.specs.Steps.{OnSuspended}
use Rattle.sspi_generator.specs.declared.task.GeneratorState.TheVariants.{Suspended, Completed}

-- a client of which its count of faults is seen: any answer may come, and a failure only where the count rises
abbrev pub Counts : ℕ → NetworkRequest → Result (List ℕ) NetFault → ℕ → Type 0
Counts before request reply after = HasCause before after reply

module _ {T C O : Type 0} (resumes : T → Result (List ℕ) NetFault → Draw → GeneratorState NetworkRequest O → T → Type 0)
    (sends : C → NetworkRequest → Result (List ℕ) NetFault → C → Type 0) where
  -- from a step that ended here: each request is sent, and its answer is the next step's, with the next draw
  abbrev pub Finishes : GeneratorState NetworkRequest O → T → C → List Draw → O → T → C → Type 0
  Finishes (Completed end) task client draws out task' client' = (out ≡ end) × (task' ≡ task) × (client' ≡ client)
  Finishes (Suspended request) task client [] out task' client' = ⊥
  Finishes (Suspended request) task client (draw ∷ draws) out task' client' =
      (reply : Result (List ℕ) NetFault) × (after : C) × (state : GeneratorState NetworkRequest O) × (next : T)
      × sends client request reply after × resumes task reply draw state next × Finishes state next after draws out task' client'

-- a whole run, whose first step uses the first draw
abbrev pub Resolves : {T C O : Type 0} → (T → Draw → GeneratorState NetworkRequest O → T → Type 0)
    → (T → Result (List ℕ) NetFault → Draw → GeneratorState NetworkRequest O → T → Type 0)
    → (C → NetworkRequest → Result (List ℕ) NetFault → C → Type 0) → T → C → List Draw → O → T → C → Type 0
Resolves starts resumes sends task client [] out task' client' = ⊥
Resolves {T} {C} {O} starts resumes sends task client (draw ∷ draws) out task' client' =
    (state : GeneratorState NetworkRequest O) × (next : T) × starts task draw state next × Finishes resumes sends state next client draws out task' client'

-- a step that asks leaves a task that waits, and fewer turns: at the start, and after an answer
abbrev pub StartsDown : {T O : Type 0} → (T → Draw → GeneratorState NetworkRequest O → T → Type 0) → (T → Type 0) → (T → Type 0) → (T → ℕ) → Type 0
StartsDown {T} {O} starts is_new is_waiting turns = (task : T) (draw : Draw) (state : GeneratorState NetworkRequest O) (next : T) → is_new task → starts task draw state next
    → OnSuspended state (λ request. is_waiting next × (turns next < turns task))

abbrev pub ResumesDown : {T O : Type 0} → (T → Result (List ℕ) NetFault → Draw → GeneratorState NetworkRequest O → T → Type 0) → (T → Type 0) → (T → ℕ) → Type 0
ResumesDown {T} {O} resumes is_waiting turns = (task : T) (reply : Result (List ℕ) NetFault) (draw : Draw) (state : GeneratorState NetworkRequest O) (next : T) → is_waiting task
    → resumes task reply draw state next → OnSuspended state (λ request. is_waiting next × (turns next < turns task))
