use Rattle.std.proofs.Common.{◌≡◌, ℕ, true, List, ◌++◌, ◌∷◌, [], codes, Some, option_map, sym, ◌∙◌, ap}
use Rattle.std.specs.List.{find}
use Rattle.krb_conf.specs.Ascii.{bar}
use Rattle.krb_conf.specs.Key.{after_prefix}
use Rattle.krb_conf.specs.Krb5Conf.{values_under}
use Rattle.krb_conf.specs.Realm as words
use Rattle.krb_conf.proofs.RealmLemmas.{under_found}
use Rattle.krb_conf.proofs.realm.mapped_realm.Goals as goal

pub returns-then-fits : goal.returns-then-fits
returns-then-fits c =
    let item : List ℕ × List ℕ = c.loop-key-item.result in
    let path : List (List ℕ) = codes "domain_realm" ∷ [] in
    let fits = λ (entry : List ℕ × List ℕ). words.fits c.args.domain.now entry.0 in
    let fit : words.fits c.args.domain.now c.in-Some.mapping.now ≡ true = sym c.fits.ensures ∙ c.if-fits.true in
    let below = c.in-Some.ensures ∙ ap (after_prefix (codes "domain_realm" ++ bar ∷ [])) c.as_str.ensures in
    let found = under_found fits path c.values-key-items.result.now c.loop-key.key-index item c.in-Some.mapping.now c.loop-key-test.true c.loop-key-item.is below fit in
    sym (ap (λ values. option_map (λ (entry : List ℕ × List ℕ). entry.1) (find fits (values_under path values))) (sym c.values-key-items.ensures)
    ∙ ap (option_map (λ (entry : List ℕ × List ℕ). entry.1)) (c.loop-key.invariant ∙ found))
