use Rattle.std.proofs.Common.{◌≡◌, rules, refl, Option, Some, ◌∙◌}
use Rattle.sspi_core.specs.declared.identity.KeytabIdentity.{KeytabIdentity}
use Rattle.krb_script.specs.Declarations.{keytab_identity}
use Rattle.krb_script.proofs.KeytabLemmas.{one_identity}
use Rattle.krb_script.proofs.declaration.keytab_identity.Goals as goal

pub returns-then-eq : goal.returns-then-eq
returns-then-eq c =
    let found : ◌≡◌ {A = Option KeytabIdentity} (keytab_identity c.args.enctype.now c.args.principal c.args.key)
    (Some (record { principal = c.args.principal; key = c.args.key; key_enctype = 17; known = refl })) = search rules in
    rw c.new-key.ensures (found ∙ one_identity c.args.principal c.args.key 17 refl _)

pub returns-then-eq-2 : goal.returns-then-eq-2
returns-then-eq-2 c =
    let found : ◌≡◌ {A = Option KeytabIdentity} (keytab_identity c.args.enctype.now c.args.principal c.args.key)
    (Some (record { principal = c.args.principal; key = c.args.key; key_enctype = 18; known = refl })) = search rules in
    rw c.new-key.ensures (found ∙ one_identity c.args.principal c.args.key 18 refl _)
