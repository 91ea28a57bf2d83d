use Rattle.std.proofs.Common.{◌≡◌, ◌++◌, rules, sym, ap, ◌∙◌, true}
use Rattle.std.proofs.lemmas.Bool.{true≢false}
use Rattle.krb_der.specs.Schema.{is_ascii}
use Rattle.krb_realm.specs.Realms.{end_to_end, salt_of}
use Rattle.krb_realm.proofs.RealmLemmas.{salt_ascii}
use Rattle.krb_realm.proofs.salt.salt_of.Goals as goal

pub returns-in-None : goal.returns-in-None
returns-in-None c =
    let copied : c.in_ok-text.text.items ≡ c.args.realm.now = search rules in
    let named : is_ascii c.args.realm.now ≡ true = search rules in
    let whole : c.push_components.new.text.items ≡ salt_of c.args.realm.now c.args.components.now =
    c.in_ok-push_components.ensures.text ∙ ap (λ l. l ++ end_to_end c.args.components.now) copied in
    let ascii = salt_ascii c.args.realm.now c.args.components.now named c.in_ok-push_components.ensures.ascii in
    λ e. absurd (true≢false (sym ascii ∙ sym (ap is_ascii whole) ∙ c.in-None.ensures.other))
