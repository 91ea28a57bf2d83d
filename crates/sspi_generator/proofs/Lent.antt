-- A run over a client that is lent.
use Rattle.std.proofs.Common.{◌≡◌, ℕ, ◌≤◌, ◌-◌, List, [], ◌∷◌, length, take, drop, get_or, Result, refl, sym, subst, arith}
use Rattle.std.proofs.lemmas.List.{take_all}
use Rattle.sspi_core.specs.declared.draw.Draw.{Draw}
use Rattle.sspi_generator.specs.declared.network.NetworkRequest.{NetworkRequest}
use Rattle.sspi_generator.specs.declared.network.NetFault.{NetFault}
use Rattle.sspi_generator.specs.declared.task.GeneratorState.{GeneratorState}
use Rattle.sspi_generator.specs.declared.task.GeneratorState.TheVariants.{Suspended}
use Rattle.sspi_generator.specs.Runs.{Finishes, Resolves}

module _ {T C O : Type 0} (resumes : T → Result (List ℕ) NetFault → Draw → GeneratorState NetworkRequest O → T → Type 0)
    (sends : C → NetworkRequest → Result (List ℕ) NetFault → C → Type 0) where
  pub finishes_on : (state : GeneratorState NetworkRequest O) (request : NetworkRequest) (task : T) (client : C) (draws : List Draw) (none : Draw) (reply : Result (List ℕ) NetFault)
      (after : C) (mid : GeneratorState NetworkRequest O) (next : T) (out : O) (task' : T) (client' : C) → state ≡ Suspended request → 1 ≤ length draws
      → sends client request reply after → resumes task reply (get_or draws 0 none) mid next → Finishes resumes sends mid next after (take (length draws - 1) (drop 1 draws)) out task' client'
      → Finishes resumes sends state task client draws out task' client'
  finishes_on state request task client [] none reply after mid next out task' client' e some h k rest = absurd (omega (arith, some))
  finishes_on state request task client (draw ∷ draws) none reply after mid next out task' client' e some h k rest =
      subst (λ (s : GeneratorState NetworkRequest O). Finishes resumes sends s task client (draw ∷ draws) out task' client') (sym e)
      (reply, after, mid, next, h, k, subst (λ (ds : List Draw). Finishes resumes sends mid next after ds out task' client') (take_all (length (draw ∷ draws) - 1) draws (omega arith)) rest)

  pub resolves_from : (starts : T → Draw → GeneratorState NetworkRequest O → T → Type 0) (self task : T) (client : C) (draws : List Draw) (none : Draw)
      (state : GeneratorState NetworkRequest O) (next : T) (out : O) (task' : T) (client' : C) → task ≡ self → 1 ≤ length draws → starts task (get_or draws 0 none) state next
      → Finishes resumes sends state next client (take (length draws - 1) (drop 1 draws)) out task' client' → Resolves starts resumes sends self client draws out task' client'
  resolves_from starts self task client [] none state next out task' client' e some h rest = absurd (omega (arith, some))
  resolves_from starts self task client (draw ∷ draws) none state next out task' client' e some h rest =
      subst (λ (t : T). Resolves starts resumes sends t client (draw ∷ draws) out task' client') e
      (state, next, h, subst (λ (ds : List Draw). Finishes resumes sends state next client ds out task' client') (take_all (length (draw ∷ draws) - 1) draws (omega arith)) rest)
