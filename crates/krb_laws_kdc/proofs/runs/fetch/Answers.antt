use borrow.Pointer.Hide.{carried_sameᵐ}
use Rattle.std.proofs.Common.{List, refl, subst}
use Rattle.sspi_core.specs.declared.draw.Draw.{Draw}
use Rattle.sspi_generator.specs.Runs.{Resolves}
use Rattle.krb_initiator.specs.InitRuns.{StartsAt, ResumesAt}
use Rattle.krb_kdc.specs.Nets.{Net}
use Rattle.krb_laws_kdc.specs.Fetching.{SendsTo}
use Rattle.krb_laws_kdc.proofs.WholeLemmas.{fetched}
use Rattle.krb_laws_kdc.proofs.runs.fetch.Object-1.{Members}
use Rattle.krb_laws_kdc.proofs.runs.fetch.Goals as goal

-- what the network that was lent has sent
pub returns : goal.returns
returns c = λ context seeker used service_key user role can q drawn is phase wanting.
    let sent = c.resolve_with_client.ensures.sent in
    let here : (after : Net) × Resolves StartsAt ResumesAt SendsTo c.args.run.now c.args.net.now c.args.draws.now c.resolve_with_client.result c.resolve_with_client.new.self after =
    subst (λ (X : Type 0). X)
    (carried_sameᵐ Members _ _ _ _ (Type 0)
    (λ j y. (after : j.0.Denot) × Resolves StartsAt ResumesAt j.1.sends c.args.run.now y.now c.args.draws.now c.resolve_with_client.result c.resolve_with_client.new.self after) _)
    (sent.0, sent.1) in
    fetched seeker c.args.net.now.pairs used service_key user can c.resolve_with_client.result c.resolve_with_client.new.self here.0 wanting context role c.args.run.now c.args.net.now is phase refl q
    (subst (λ (ds : List Draw). Resolves StartsAt ResumesAt SendsTo c.args.run.now c.args.net.now ds c.resolve_with_client.result c.resolve_with_client.new.self here.0) drawn here.1)
