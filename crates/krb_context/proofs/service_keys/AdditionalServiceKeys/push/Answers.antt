use Rattle.std.proofs.Common.{ℕ, List, ◌++◌, ◌∷◌, [], sym, ap, ◌∙◌}
use Rattle.krb_messages.specs.declared.principal_name.PrincipalName.{PrincipalName}
use Rattle.krb_context.specs.AdditionalKeys.{first_place}
use Rattle.krb_context.proofs.ServiceKeyLemmas.{place_pushed}
use Rattle.krb_context.proofs.service_keys.AdditionalServiceKeys.push.Goals as goal

pub invariant_of-self-inside-2 : goal.invariant_of-self-inside-2
invariant_of-self-inside-2 c = (
  λ components. place_pushed c.self.inside.services.items (c.args.name, c.args.key) components c.len-place.result _ _
      (c.self.inside.indexed components) (c.in_ok-note_place.ensures.noted components)
      (c.len-place.ensures ∙ c.in_ok-reserve.ensures.len ∙ c.self.inside.services.ok.0)
      ∙ ap (λ (services : List (PrincipalName × List ℕ)). first_place services components)
      (ap (λ (services : List (PrincipalName × List ℕ)). services ++ (c.args.name, c.args.key) ∷ []) (sym c.in_ok-reserve.ensures.items) ∙ sym c.push_reserved.ensures.items),
  tt,
)
