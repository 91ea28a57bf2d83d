use Rattle.std.proofs.Common.{ap, ◌∙◌, subst}
use Rattle.krb_admission.specs.declared.request.Request.{Request}
use Rattle.krb_admission.specs.Requests.{ask_of}
use Rattle.krb_admission.specs.Halves.{Prepared, AdmitsPrepared}
use Rattle.krb_admission.proofs.HalvesLemmas.{admits_in_time, admits_too_late, never_memory}
use Rattle.krb_admission.proofs.halves.admit.Goals as goal

pub returns-in_err-check_state-clause-step : goal.returns-in_err-check_state-clause-step
returns-in_err-check_state-clause-step g c =
    λ ne. admits_too_late g.G.ReplayGate.admits c.args.judged c.args.server.now c.args.gate.now _ _ c.in_err-check_state.ensures c.from_residual.ensures.1

pub returns-clause-step : goal.returns-clause-step
returns-clause-step g c =
    let asked = c.in_ok-ask.ensures ∙ ap (λ (r : Request). ask_of c.judged.inside.rules r c.judged.inside.moment) c.deref_mut.ensures.value in
    λ ne. subst (λ (p : Prepared). AdmitsPrepared g.G.ReplayGate.admits p c.args.server.now c.args.gate.now c.settle_behind.result c.settle_behind.new.server c.admit.new.self) c.judged.view_is
    (admits_in_time g.G.ReplayGate.admits _ c.args.server.now c.args.gate.now _ _ _ _ c.in_ok-check_state.ensures
    (record { verdict = c.in_ok-verdict.verdict; gate = rw asked at c.in_ok-verdict.ensures.step; made = rw c.refusal.ensures at c.settle_behind.ensures }))

pub returns-clause-memory : goal.returns-clause-memory
returns-clause-memory g c = λ z. absurd (never_memory _ c.judged.invariant c.args.server.now _ c.in_ok-verdict.verdict _ (rw c.refusal.ensures at c.settle_behind.ensures) z)
