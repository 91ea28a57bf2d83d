use Rattle.std.proofs.Common.{ap, ◌∙◌}
use Rattle.krb_kdc.specs.declared.kdc.Trust.{Trust}
use Rattle.krb_kdc.specs.Registers.{same_text, trust_in}
use Rattle.krb_kdc.proofs.TableLemmas.{texts_decide, looked_up}
use Rattle.krb_kdc.proofs.tables.Trusts.find.Goals as goal

pub returns : goal.returns
returns c =
    c.get.ensures.value ∙ looked_up same_text texts_decide (λ (trust : Trust). trust.realm) c.args.realm.now c.self.inside.by_realm.entries c.self.invariant
    ∙ ap (trust_in c.args.realm.now) c.self.view_is
