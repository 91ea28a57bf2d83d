use Rattle.std.proofs.Common.{ℕ, List, ap, ◌∙◌, take_all, arith}
use Rattle.krb_messages.specs.declared.principal_name.PrincipalName.{PrincipalName}
use Rattle.krb_context.specs.AdditionalKeys.{first_place}
use Rattle.krb_context.proofs.ServiceKeyLemmas.{place_step}
use Rattle.krb_context.proofs.service_keys.AdditionalServiceKeys.new.Goals as goal

pub loop-place-preserved : goal.loop-place-preserved
loop-place-preserved c = λ other.
    place_step c.deref-service-items.result.now c.loop-place.place c.service-item.result other _ _ (omega (arith, c.loop-place-test.true))
    c.service-item.is (c.loop-place.invariant other) (c.in_ok-note_place.ensures.noted other)

pub invariant_of-result : goal.invariant_of-result
invariant_of-result c = (
  λ components. c.loop-place.invariant components
      ∙ ap (λ (services : List (PrincipalName × List ℕ)). first_place services components)
      (take_all c.loop-place.place c.deref-service-items.result.now (omega (arith, c.loop-place-test.false)) ∙ c.deref-service-items.ensures.value),
  tt,
)
