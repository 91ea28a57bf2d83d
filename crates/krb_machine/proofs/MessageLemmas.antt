-- The results of calls at a context, from the context's own clauses.
use Rattle.std.proofs.Common.{◌≡◌, ℕ, List, take, Err, ap, ◌∙◌}
use Rattle.sspi_core.specs.Buffer.{Buffer}
use Rattle.sspi_core.specs.Kinds.{error_of}
use Rattle.sspi_core.specs.declared.cause.Cause.TheVariants.{Memory}
use Rattle.sspi_core.specs.declared.error.Error.{Error}
use Rattle.sspi_core.specs.declared.error.Place.TheVariants.{Elsewhere}
use Rattle.krb_context.specs.Refusals.{Refuses}
use Rattle.krb_context.specs.Wraps.{Wraps}
use Rattle.krb_context.specs.declared.context.Kerberos.{Kerberos}
use Rattle.krb_machine.specs.MessageCalls.{Seals}
use Rattle.krb_machine.specs.declared.reply.Reply.{Reply}
use Rattle.krb_machine.specs.declared.reply.Reply.TheVariants.{Refused}

-- encryption is refused
pub seals-refused : (context : Kerberos) (random : List ℕ) (message : List Buffer) (error : Error) (reply : Reply) (after : Kerberos)
    → Refuses Elsewhere (Wraps context (take 16 random) message) error → (error ≡ error_of Memory → ⊥) → reply ≡ Refused error → after ≡ context
    → Seals context random message reply after
seals-refused context random message error reply after refuses never is stays =
    let r = refuses.so never in record { answer = Err r.0; wraps = r.2; made = (is ∙ ap Refused r.1, stays) }
