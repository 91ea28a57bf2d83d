use Rattle.std.proofs.Common.{List, [], ◌∷◌, ◌++◌, ap, ◌∙◌}
use Rattle.krb_kdc.specs.declared.kdc.Route.{Route}
use Rattle.krb_kdc.specs.Registers.{same_components, route_to}
use Rattle.krb_kdc.proofs.TableLemmas.{components_decide, added}
use Rattle.krb_kdc.proofs.tables.Routes.add.Goals as goal

pub invariant_of-self-2 : goal.invariant_of-self-2
invariant_of-self-2 c =
    (added same_components components_decide (λ (route : Route). route.service) c.self.inside.by_service c.in_ok-service.service c.args.route c.insert.new.self.entries c.self.invariant
    c.in_ok-service.ensures (ap (route_to c.args.route.service) c.self.view_is ∙ c.requires) c.in_ok-insert.ensures.entries).1

pub returns-clause-added : goal.returns-clause-added
returns-clause-added c =
    (added same_components components_decide (λ (route : Route). route.service) c.self.inside.by_service c.in_ok-service.service c.args.route c.insert.new.self.entries c.self.invariant
    c.in_ok-service.ensures (ap (route_to c.args.route.service) c.self.view_is ∙ c.requires) c.in_ok-insert.ensures.entries).0
    ∙ ap (λ (items : List Route). items ++ c.args.route ∷ []) c.self.view_is
