use Rattle.std.proofs.Common.{◌≡◌, sym, ap, ◌∙◌}
use Rattle.std.specs.Prelude.{Some}
use Rattle.sspi_core.specs.declared.error.Place.TheVariants as places
use Rattle.krb_context.specs.Queries.{name_of}
use Rattle.krb_sessions.specs.Gives.{IsNamed}
use Rattle.krb_c.proofs.Served.{serves_not}
use Rattle.krb_c.proofs.messages.peer.Goals as goal

pub returns-in-Err-clause-fails : goal.returns-in-Err-clause-fails
returns-in-Err-clause-fails c =
    rw c.from.ensures (serves_not ⊥ places.Query (λ s answer. answer ≡ name_of s.connection) (λ s. IsNamed s.connection) _ _ c.deref.result.now c.in-Err.fault
    (sym c.in-Some.ensures.taken ∙ ap Some (sym c.deref.ensures)) c.in-Err.ensures.refused)
