use Rattle.std.proofs.Common.{ap, ◌∙◌}
use Rattle.krb_kdc.specs.declared.kdc.Principal.{Principal}
use Rattle.krb_kdc.specs.Registers.{same_components, principal_with}
use Rattle.krb_kdc.proofs.TableLemmas.{components_decide, looked_up}
use Rattle.krb_kdc.proofs.tables.Principals.find.Goals as goal

pub returns : goal.returns
returns c =
    c.get.ensures.value ∙ looked_up same_components components_decide (λ (principal : Principal). principal.components) c.args.components.now c.self.inside.by_name.entries c.self.invariant
    ∙ ap (principal_with c.args.components.now) c.self.view_is
