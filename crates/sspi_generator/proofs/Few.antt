-- A run takes no more steps than its task has turns, and one.
use Rattle.std.proofs.Common.{◌≡◌, ℕ, zero, suc, ◌+◌, ◌<◌, ◌≤◌, List, [], ◌∷◌, take, Result, subst, arith}
use Rattle.sspi_core.specs.declared.draw.Draw.{Draw}
use Rattle.sspi_generator.specs.declared.network.NetworkRequest.{NetworkRequest}
use Rattle.sspi_generator.specs.declared.network.NetFault.{NetFault}
use Rattle.sspi_generator.specs.declared.task.GeneratorState.{GeneratorState}
use Rattle.sspi_generator.specs.declared.task.GeneratorState.TheVariants.{Suspended, Completed}
use Rattle.sspi_generator.specs.Steps.{OnSuspended}
use Rattle.sspi_generator.specs.Runs.{Finishes, Resolves, StartsDown, ResumesDown}

module _ {T C O : Type 0} (starts : T → Draw → GeneratorState NetworkRequest O → T → Type 0)
    (resumes : T → Result (List ℕ) NetFault → Draw → GeneratorState NetworkRequest O → T → Type 0)
    (sends : C → NetworkRequest → Result (List ℕ) NetFault → C → Type 0) (is_new is_waiting : T → Type 0) (turns : T → ℕ) where
  -- each step that asks has fewer turns after it, so there are enough draws
  finishes_in : (down : ResumesDown resumes is_waiting turns) (state : GeneratorState NetworkRequest O) (task : T) (client : C) (draws : List Draw) (out : O) (task' : T) (client' : C) (n : ℕ)
      → OnSuspended state (λ request. is_waiting task × (turns task < n)) → Finishes resumes sends state task client draws out task' client'
      → Finishes resumes sends state task client (take n draws) out task' client'
  finishes_in down (Completed end) task client draws out task' client' n h run = run
  finishes_in down (Suspended request) task client [] out task' client' n h run = absurd run
  finishes_in down (Suspended request) task client (draw ∷ draws) out task' client' zero h run = absurd (let k = h.1 in omega (arith, k))
  finishes_in down (Suspended request) task client (draw ∷ draws) out task' client' (suc n) h run =
      let next = run.3 in
      let rest = finishes_in down run.2 next run.1 draws out task' client' n (few run.2 next n (down task run.0 draw run.2 next h.0 run.5) (let k = h.1 in omega (arith, k))) run.6 in
      (run.0, run.1, run.2, next, run.4, run.5, rest)
    where
      few : (state : GeneratorState NetworkRequest O) (next : T) (n : ℕ) → OnSuspended state (λ request. is_waiting next × (turns next < turns task)) → turns task ≤ n
          → OnSuspended state (λ request. is_waiting next × (turns next < n))
      few (Completed end) next n d le = tt
      few (Suspended request) next n d le = (d.0, let k = d.1 in omega (arith, k, le))

  pub resolves_in : StartsDown starts is_new is_waiting turns → ResumesDown resumes is_waiting turns → (task : T) (client : C) (draws : List Draw) (out : O) (task' : T) (client' : C) → is_new task
      → Resolves starts resumes sends task client draws out task' client' → Resolves starts resumes sends task client (take (turns task + 1) draws) out task' client'
  resolves_in first down task client [] out task' client' new run = absurd run
  resolves_in first down task client (draw ∷ draws) out task' client' new run =
      let one : suc (turns task) ≡ turns task + 1 = omega arith in
      subst (λ (n : ℕ). Resolves starts resumes sends task client (take n (draw ∷ draws)) out task' client') one
      (run.0, run.1, run.2, finishes_in down run.0 run.1 client draws out task' client' (turns task) (first task draw run.0 run.1 new run.2) run.3)
