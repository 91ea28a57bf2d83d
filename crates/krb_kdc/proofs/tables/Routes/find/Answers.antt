use Rattle.std.proofs.Common.{ap, ◌∙◌}
use Rattle.krb_kdc.specs.declared.kdc.Route.{Route}
use Rattle.krb_kdc.specs.Registers.{same_components, route_to}
use Rattle.krb_kdc.proofs.TableLemmas.{components_decide, looked_up}
use Rattle.krb_kdc.proofs.tables.Routes.find.Goals as goal

pub returns : goal.returns
returns c =
    c.get.ensures.value ∙ looked_up same_components components_decide (λ (route : Route). route.service) c.args.service.now c.self.inside.by_service.entries c.self.invariant
    ∙ ap (route_to c.args.service.now) c.self.view_is
