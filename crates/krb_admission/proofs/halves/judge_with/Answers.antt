use Rattle.std.proofs.Common.{◌∙◌}
use Rattle.krb_admission.specs.Halves.{with_keys}
use Rattle.krb_admission.proofs.Begun.{begun, begun_answerable}
use Rattle.krb_admission.proofs.HalvesLemmas.{refused_half, ready, prepared_by, finishes_with}
use Rattle.krb_admission.proofs.Steps.{answered}
use Rattle.sspi_core.proofs.Chain.{answers}
use Rattle.krb_admission.proofs.halves.judge_with.Goals as goal

pub returns-in_err-request : goal.returns-in_err-request
returns-in_err-request c = refused_half (with_keys c.args.keys.now c.args.server.now) c.args.dce c.args.token.now c.args.draw.now _ _ c.in_err-request.ensures c.from_residual.ensures.1

pub finish-requires : goal.finish-requires
finish-requires c = rw c.deref.ensures (begun_answerable c.in_ok-request.request.value (begun (with_keys c.args.keys.now c.args.server.now) c.args.dce c.args.token.now c.in_ok-request.request.value (answered _ _ c.in_ok-request.ensures)))

pub invariant_of-result : goal.invariant_of-result
invariant_of-result c = prepared_by (with_keys c.args.keys.now c.args.server.now) c.args.dce c.args.token.now c.args.draw.now _ (ready (with_keys c.args.keys.now c.args.server.now) c.args.dce c.args.token.now c.args.draw.now c.in_ok-request.request.value c.in_ok-outcome.outcome c.in_ok-request.ensures (finishes_with c.args.keys.now c.args.server.now _ _ _ _ (rw c.deref.ensures at c.in_ok-outcome.ensures)))

pub returns : goal.returns
returns c = answers _ _ (ready (with_keys c.args.keys.now c.args.server.now) c.args.dce c.args.token.now c.args.draw.now c.in_ok-request.request.value c.in_ok-outcome.outcome c.in_ok-request.ensures (finishes_with c.args.keys.now c.args.server.now _ _ _ _ (rw c.deref.ensures at c.in_ok-outcome.ensures)))
