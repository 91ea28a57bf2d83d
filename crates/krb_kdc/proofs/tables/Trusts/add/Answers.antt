use Rattle.std.proofs.Common.{List, [], ◌∷◌, ◌++◌, ap, ◌∙◌}
use Rattle.krb_kdc.specs.declared.kdc.Trust.{Trust}
use Rattle.krb_kdc.specs.Registers.{same_text, trust_in}
use Rattle.krb_kdc.proofs.TableLemmas.{texts_decide, added}
use Rattle.krb_kdc.proofs.tables.Trusts.add.Goals as goal

pub invariant_of-self-2 : goal.invariant_of-self-2
invariant_of-self-2 c =
    (added same_text texts_decide (λ (trust : Trust). trust.realm) c.self.inside.by_realm c.in_ok-realm.realm c.args.trust c.insert.new.self.entries c.self.invariant
    c.in_ok-realm.ensures (ap (trust_in c.args.trust.realm) c.self.view_is ∙ c.requires) c.in_ok-insert.ensures.entries).1

pub returns-clause-added : goal.returns-clause-added
returns-clause-added c =
    (added same_text texts_decide (λ (trust : Trust). trust.realm) c.self.inside.by_realm c.in_ok-realm.realm c.args.trust c.insert.new.self.entries c.self.invariant
    c.in_ok-realm.ensures (ap (trust_in c.args.trust.realm) c.self.view_is ∙ c.requires) c.in_ok-insert.ensures.entries).0
    ∙ ap (λ (items : List Trust). items ++ c.args.trust ∷ []) c.self.view_is
