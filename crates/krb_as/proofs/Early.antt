-- An AS-REP in the place of an error, where that is not allowed.
use Rattle.std.proofs.Common.{◌≡◌, ℕ, Bool, true, false, List, Result, Ok, Err, subst}
use Rattle.krb_exchange.specs.declared.kdc_rep.AsRep.{AsRep}
use Rattle.krb_exchange.specs.declared.krb_error.KrbError.{KrbError}
use Rattle.krb_exchange.specs.declared.result.KrbResult.{KrbResult}
use Rattle.krb_exchange.specs.declared.result.KrbResult.TheVariants.{Ok as Reply}
use Rattle.krb_exchange.specs.Layouts.{as_rep_layout}
use Rattle.krb_context.specs.declared.rules.Rules.{Rules}
use Rattle.krb_context.specs.Rules.{has_rule, no_preauthentication}
use Rattle.sspi_core.specs.declared.cause.Cause.{Cause}
use Rattle.sspi_core.specs.declared.cause.Cause.TheVariants.{EarlyAsRep}
use Rattle.sspi_core.specs.declared.protocol.NetworkProtocol.{NetworkProtocol}
use Rattle.sspi_core.specs.Checks.{Holds, Goes}
use Rattle.sspi_generator.specs.declared.network.NetFault.{NetFault}
use Rattle.krb_as.specs.Replied.{TakesEarly, TakesEither, TakesFirst}
use Rattle.krb_as.specs.Replies.{Replies}
use Rattle.krb_as.proofs.Once.{as_rep_once, replies_once}

-- a test that fails is refused
fails : (test : Bool) (answer : Result (Unit {0}) Cause) → test ≡ false → Holds EarlyAsRep test answer → answer ≡ Err EarlyAsRep
fails true answer e h = absurd cc
fails false answer e h = h.is

module _ {A : Type 0} (rules : Rules) (next : AsRep → Result A Cause → Type 0) (rep : AsRep) (answer : Result A Cause)
    (off : has_rule rules no_preauthentication ≡ false) where
  taken_early : TakesEarly rules next rep answer → answer ≡ Err EarlyAsRep
  unfolding TakesEarly
  taken_early h =
      subst (λ (m : Result (Unit {0}) Cause). Goes (λ (x : Unit {0}). next rep) m answer) (fails (has_rule rules no_preauthentication) h.middle off h.held) h.rest

  pub refused_early : (protocol : NetworkProtocol) (behind : KrbError → Result A Cause → Type 0) (reply : Result (List ℕ) NetFault)
      → Replies protocol as_rep_layout reply (Ok (Reply rep)) → TakesFirst rules protocol behind next reply answer → answer ≡ Err EarlyAsRep
  unfolding TakesFirst
  refused_early protocol behind reply replies h =
      taken_early (subst (λ (m : Result (KrbResult AsRep) Cause). Goes (TakesEither rules behind next) m answer)
      ((replies_once protocol as_rep_layout reply as_rep_once).same h.middle (Ok (Reply rep)) h.held replies) h.rest)
