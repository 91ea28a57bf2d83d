use Rattle.std.proofs.Common.{List, [], ◌∷◌, ◌++◌, ap, ◌∙◌}
use Rattle.krb_kdc.specs.declared.kdc.Principal.{Principal}
use Rattle.krb_kdc.specs.Registers.{same_components, principal_with}
use Rattle.krb_kdc.proofs.TableLemmas.{components_decide, added}
use Rattle.krb_kdc.proofs.tables.Principals.add.Goals as goal

pub invariant_of-self-2 : goal.invariant_of-self-2
invariant_of-self-2 c =
    (added same_components components_decide (λ (principal : Principal). principal.components) c.self.inside.by_name c.in_ok-components.components c.args.principal c.insert.new.self.entries c.self.invariant
    c.in_ok-components.ensures (ap (principal_with c.args.principal.components) c.self.view_is ∙ c.requires) c.in_ok-insert.ensures.entries).1

pub returns-clause-added : goal.returns-clause-added
returns-clause-added c =
    (added same_components components_decide (λ (principal : Principal). principal.components) c.self.inside.by_name c.in_ok-components.components c.args.principal c.insert.new.self.entries c.self.invariant
    c.in_ok-components.ensures (ap (principal_with c.args.principal.components) c.self.view_is ∙ c.requires) c.in_ok-insert.ensures.entries).0
    ∙ ap (λ (items : List Principal). items ++ c.args.principal ∷ []) c.self.view_is
