use Rattle.std.proofs.Common.{refl}
use Rattle.krb_admission.proofs.HalvesLemmas.{refused_call, admitted_call}
use Rattle.krb_admission.proofs.whole.judge_and_admit.Goals as goal

pub returns-in_err-judged-clause-step : goal.returns-in_err-judged-clause-step
returns-in_err-judged-clause-step g c =
    λ ne. refused_call g.G.ReplayGate.admits c.args.server.now c.args.dce c.args.token.now c.args.draw.now c.args.gate.now _ _ _ _ c.requires c.in_err-judged.ensures.judges c.from_residual.ensures.1
    c.in_err-judged.ensures.stays refl ne

pub returns-clause-step : goal.returns-clause-step
returns-clause-step g c =
    λ ne. admitted_call g.G.ReplayGate.admits c.args.server.now c.args.dce c.args.token.now c.args.draw.now c.args.gate.now _ _ _ _ c.requires c.in_ok-judged.ensures.judges
    (rw c.in_ok-judged.ensures.stays at (c.admit.ensures.step ne))
