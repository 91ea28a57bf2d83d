use Rattle.std.proofs.Common.{◌≡◌, rules, sym, ap, ◌∙◌, true}
use Rattle.std.proofs.lemmas.Bool.{true≢false}
use Rattle.krb_der.specs.Schema.{is_ascii}
use Rattle.krb_script.specs.Fields.{is_name}
use Rattle.krb_script.proofs.FieldLemmas.{name-ascii}
use Rattle.krb_script.proofs.fields.name.Goals as goal

pub returns-in-None : goal.returns-in-None
returns-in-None c =
    let copied : c.in_ok-to_vec.field-0.items ≡ c.args.text.now = search rules in
    let named : is_name c.args.text.now ≡ true = search rules in
    λ e. absurd (true≢false (sym (name-ascii c.args.text.now named) ∙ sym (ap is_ascii copied) ∙ c.in-None.ensures.other))
