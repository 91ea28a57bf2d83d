use Rattle.std.proofs.Common.{ℕ, List, Some, sym, ap, ◌∙◌, ◌<◌, subst}
use Rattle.krb_messages.specs.declared.principal_name.PrincipalName.{PrincipalName}
use Rattle.krb_context.specs.AdditionalKeys.{additional_key}
use Rattle.krb_context.proofs.ServiceKeyLemmas.{place_low, key_there, key_nowhere}
use Rattle.krb_context.proofs.service_keys.AdditionalServiceKeys.find.Goals as goal

pub index-requires : goal.index-requires
index-requires c =
    let low = place_low c.self.inside.services.items c.args.components.now c.in-Some.place.now (sym (c.self.inside.indexed c.args.components.now) ∙ sym c.in-Some.ensures.value) in
    subst (λ (n : ℕ). c.in-Some.place.now < n) (sym c.self.inside.services.ok.0) low

pub returns-in-Some : goal.returns-in-Some
returns-in-Some c =
    let there = key_there c.self.inside.services.items c.args.components.now c.in-Some.place.now c.index.result.now (sym (c.self.inside.indexed c.args.components.now) ∙ sym c.in-Some.ensures.value) in
    ap (λ (service : PrincipalName × List ℕ). Some service.1) c.index.ensures
    ∙ sym there ∙ ap (λ (services : List (PrincipalName × List ℕ)). additional_key services c.args.components.now) c.self.view_is

pub returns-in-None : goal.returns-in-None
returns-in-None c =
    sym (key_nowhere c.self.inside.services.items c.args.components.now (sym (c.self.inside.indexed c.args.components.now) ∙ sym c.in-None.ensures.value))
    ∙ ap (λ (services : List (PrincipalName × List ℕ)). additional_key services c.args.components.now) c.self.view_is
