use Rattle.std.proofs.Common.{◌≡◌, sym, ap, ◌∙◌}
use Rattle.std.specs.Prelude.{Some, Ok}
use Rattle.sspi_core.specs.declared.error.Place.TheVariants as places
use Rattle.krb_c.proofs.Served.{serves_not}
use Rattle.krb_c.proofs.messages.answer.Goals as goal

pub returns-in-Err-clause-fails : goal.returns-in-Err-clause-fails
returns-in-Err-clause-fails c =
    rw c.from.ensures (serves_not ⊥ places.Elsewhere (λ s answer. answer ≡ Ok s.answer) (λ s octets. octets ≡ s.answer) _ _ c.deref.result.now c.in-Err.fault
    (sym c.in-Some.ensures.taken ∙ ap Some (sym c.deref.ensures)) c.in-Err.ensures.short)
