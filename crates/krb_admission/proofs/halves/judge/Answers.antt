use Rattle.std.proofs.Common.{◌∙◌}
use Rattle.krb_admission.proofs.Begun.{begun, begun_answerable}
use Rattle.krb_admission.proofs.HalvesLemmas.{refused_half, ready, prepared_by}
use Rattle.krb_admission.proofs.Steps.{answered}
use Rattle.sspi_core.proofs.Chain.{answers}
use Rattle.krb_admission.proofs.halves.judge.Goals as goal

pub returns-in_err-request-clause-judges : goal.returns-in_err-request-clause-judges
returns-in_err-request-clause-judges c = refused_half c.args.server.now c.args.dce c.args.token.now c.args.draw.now _ _ c.in_err-request.ensures.begins c.from_residual.ensures.1

pub finish-requires : goal.finish-requires
finish-requires c = rw c.deref.ensures (begun_answerable c.in_ok-request.request.value (begun c.args.server.now c.args.dce c.args.token.now c.in_ok-request.request.value (answered _ _ c.in_ok-request.ensures.begins)))

pub invariant_of-result : goal.invariant_of-result
invariant_of-result c = prepared_by c.args.server.now c.args.dce c.args.token.now c.args.draw.now _ (ready c.args.server.now c.args.dce c.args.token.now c.args.draw.now c.in_ok-request.request.value c.in_ok-outcome.outcome c.in_ok-request.ensures.begins (rw c.deref.ensures at (rw c.in_ok-request.ensures.stays at c.in_ok-outcome.ensures)))

pub returns-clause-judges : goal.returns-clause-judges
returns-clause-judges c = answers _ _ (ready c.args.server.now c.args.dce c.args.token.now c.args.draw.now c.in_ok-request.request.value c.in_ok-outcome.outcome c.in_ok-request.ensures.begins (rw c.deref.ensures at (rw c.in_ok-request.ensures.stays at c.in_ok-outcome.ensures)))
