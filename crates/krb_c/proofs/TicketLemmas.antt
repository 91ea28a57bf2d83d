-- A ticket that C names is refused by its own checks, or by those of its client.
use Rattle.std.proofs.Common.{◌≡◌, Result, Ok, Err, refl}
use Rattle.std.specs.Result.{IfErr}
use Rattle.krb_as.specs.declared.key.Grant.{Grant}
use Rattle.krb_c.specs.Ccaches.{NamedTicket, HoldsNamed, NamesNamed}
use Rattle.krb_context.proofs.ChainLemmas.{refuses}
use Rattle.krb_context.specs.Refusals.{Refuses}
use Rattle.krb_dialogue.specs.Settings.{NamesHolder}
use Rattle.sspi_core.proofs.Chain.{stops, follows}
use Rattle.sspi_core.specs.Checks.{Answers}
use Rattle.sspi_core.specs.Kinds.{error_of}
use Rattle.sspi_core.specs.declared.cause.Cause.{Cause}
use Rattle.sspi_core.specs.declared.error.Error.{Error}
use Rattle.sspi_core.specs.declared.error.Place.TheVariants.{Elsewhere}

module _ (named : NamedTicket) where
  pub ticket_refused : (cause : Cause) (error : Error) → Answers (HoldsNamed named) (Err cause) → error ≡ error_of cause
      → Refuses Elsewhere (NamesNamed named) error
  unfolding NamesNamed
  ticket_refused cause error held is = refuses Elsewhere (NamesNamed named) cause error (stops (HoldsNamed named) NamesHolder cause (Err cause) held refl) is

  pub holder_refused : (held : Grant) (answer : Result (Unit {0}) Error) → Answers (HoldsNamed named) (Ok held)
      → IfErr answer (Refuses Elsewhere (NamesHolder held)) → IfErr answer (Refuses Elsewhere (NamesNamed named))
  unfolding NamesNamed
  holder_refused held (Ok done) holds refused = tt
  holder_refused held (Err error) holds refused = record {
    so =
        λ no_memory.
        let told = refused.so no_memory in
        (told.0, told.1, follows (HoldsNamed named) NamesHolder held _ (holds.so (λ e. absurd cc)) told.2);
  }
