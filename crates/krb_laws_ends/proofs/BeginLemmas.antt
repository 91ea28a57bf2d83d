-- An initiator begins to fetch a ticket.
use Rattle.std.proofs.Common.{ℕ, Bool, true, false, List, [], refl, sym, subst, lit<, lit≤, Ok}
use Rattle.std.specs.Prelude.{None, is_some}
use Rattle.krb_conf.specs.Names.{target_parts}
use Rattle.krb_context.specs.declared.context.Kerberos.{Kerberos}
use Rattle.krb_context.specs.declared.state.KerberosState.{KerberosState}
use Rattle.sspi_core.proofs.Chain.{takes_some, holds_true, follows, gives}
use Rattle.sspi_core.specs.declared.cause.Cause.TheVariants.{NoTarget, Target, NoIdentity}
use Rattle.sspi_core.specs.declared.identity.CredentialsBuffers.{CredentialsBuffers}
use Rattle.krb_replies.specs.Tickets.{TakesTicket}
use Rattle.krb_as.specs.declared.client.Client.{Client}
use Rattle.krb_ap.specs.Initiators.{is_bare}
use Rattle.krb_initiator.specs.declared.options.InitOptions.{InitOptions}
use Rattle.krb_initiator.specs.declared.seeker.Initiation.TheVariants.{Seeks}
use Rattle.krb_initiator.specs.Beginnings.{ChecksTarget, NamesTarget, identity_of, NamesIdentity, Identifies, SeeksTicket, BeginsNew, BeginsIn, BeginsInitiation}
use Rattle.krb_initiator.specs.Tgts.{no_tgt, TakesBareTgt, TakesFramedTgt, TakesTgt}
use Rattle.krb_laws_ends.specs.Fetches.{CanBegin, seeker_for, AsksMutual}

-- without a token there is no ticket-granting ticket
takes_none : (dce : Bool) → TakesTgt dce [] (Ok no_tgt)
unfolding TakesBareTgt TakesFramedTgt TakesTicket
takes_none true = follows _ _ tt _ (record { is = refl }) (follows _ _ None _ (record { is = refl }) (gives no_tgt))
takes_none false = follows _ _ None _ (follows _ _ tt _ (record { is = refl }) (record { is = refl })) (gives no_tgt)

module _ (context : Kerberos) (options : InitOptions) (target : List ℕ) (credentials : CredentialsBuffers) (client : Client) (can : CanBegin context options target credentials client) where
  names : NamesTarget options.target (Ok target)
  unfolding NamesTarget ChecksTarget
  names = follows _ _ target _ (takes_some NoTarget options.target target can.has_target) (follows _ _ tt _ (holds_true Target (is_some (target_parts target)) can.two_parts) (gives target))

  identifies : Identifies context options (Ok (identity_of context credentials options.env client))
  unfolding Identifies NamesIdentity
  identifies = follows _ _ credentials _ (takes_some NoIdentity options.credentials credentials can.has_credentials) (follows _ _ client _ can.named (gives _))

  seeks : SeeksTicket context options (Ok (Seeks (seeker_for context options target credentials client)))
  unfolding SeeksTicket
  seeks =
      follows _ _ target _ names
      (follows _ _ no_tgt _ (subst (λ (t : List ℕ). TakesTgt (is_bare options.flags) t (Ok no_tgt)) (sym can.no_token) (takes_none (is_bare options.flags)))
      (follows _ _ (identity_of context credentials options.env client) _ identifies (gives _)))

  pub begins : BeginsInitiation context options (Ok (Seeks (seeker_for context options target credentials client)))
  begins =
      subst (λ (s : KerberosState). BeginsIn s context options (Ok (Seeks (seeker_for context options target credentials client)))) (sym can.state)
      (subst (λ (b : Bool). BeginsNew b context options (Ok (Seeks (seeker_for context options target credentials client)))) (sym can.alone) seeks)

  pub asks_mutual : AsksMutual (seeker_for context options target credentials client)
  asks_mutual = record { asked = can.mutual_asked; named = lit< tt; short = lit≤ tt }
