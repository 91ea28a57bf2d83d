-- The initiation of an initiator, as far as it matters for the freshness of its replies.
use Rattle.std.proofs.Common.{◌≡◌, ℕ, Bool, true, false, List, Some, Ok, refl, sym, ap, ◌∙◌, subst}
use Rattle.sspi_core.proofs.Chain.{passed, gave, took}
use Rattle.krb_context.specs.declared.context.Kerberos.{Kerberos}
use Rattle.krb_context.specs.declared.state.KerberosState.{KerberosState}
use Rattle.krb_context.specs.declared.state.KerberosState.TheVariants.{TgtExchange, Preauthentication, ApExchange, Final}
use Rattle.krb_as.specs.Clients.{NamesClient}
use Rattle.krb_ap.specs.declared.initiator.Initiator.{Initiator}
use Rattle.krb_initiator.specs.Beginnings.{initiator_of, identity_of, seeker_of, ChecksTarget, NamesTarget, NamesIdentity, Identifies, SeeksTicket, RequestsTgt, BeginsNew, BeginsIn, BeginsInitiation}
use Rattle.krb_initiator.specs.declared.begin.Identity.{Identity}
use Rattle.krb_initiator.specs.declared.options.InitOptions.{InitOptions}
use Rattle.krb_initiator.specs.declared.seeker.Initiation.{Initiation}
use Rattle.krb_initiator.specs.declared.seeker.Initiation.TheVariants.{Requests, Seeks, Hears}
use Rattle.krb_initiator.specs.declared.seeker.Seeker.{Seeker}
use Rattle.krb_machine.specs.Initiations.{is_before}

-- a ticket is sought for its caller's credentials and to its caller's target, by the context's rules
pub record IsSought (context : Kerberos) (options : InitOptions) (seeker : Seeker) : Type 0 where
  pub credentials : options.credentials ≡ Some seeker.asker.credentials
  pub client : NamesClient seeker.asker.credentials context.config.client_computer_name seeker.asker.env (Ok seeker.client)
  pub rules : seeker.asker.rules ≡ context.rules
  pub target : options.target ≡ Some seeker.wanted.target
  pub flags : seeker.errand.initiator.flags ≡ options.flags

-- the service's own ticket is asked for, and the keys are unchanged
pub record IsRequested (context : Kerberos) (initiator : Initiator) : Type 0 where
  pub state : is_before context.state ≡ true
  pub params : initiator.params ≡ context.encryption_params

-- the service's answer is taken, after the ticket was shown
pub record IsHeard (context : Kerberos) (options : InitOptions) (initiator : Initiator) (token : List ℕ) : Type 0 where
  pub state : context.state ≡ ApExchange
  pub is : initiator ≡ initiator_of context context.krb5_user_to_user options.flags
  pub token_is : token ≡ options.token

abbrev pub IsBegun : Kerberos → InitOptions → Initiation → Type 0
IsBegun context options (Requests initiator token) = IsRequested context initiator
IsBegun context options (Seeks seeker) = IsSought context options seeker
IsBegun context options (Hears initiator token) = IsHeard context options initiator token

record HasIdentity (context : Kerberos) (options : InitOptions) (identity : Identity) : Type 0 where
  credentials : options.credentials ≡ Some identity.asker.credentials
  client : NamesClient identity.asker.credentials context.config.client_computer_name identity.asker.env (Ok identity.client)
  rules : identity.asker.rules ≡ context.rules

module _ (context : Kerberos) (options : InitOptions) (initiation : Initiation) where
  abbrev Is : Initiation → Type 0
  Is i = IsBegun context options i

  target_named : (target : List ℕ) → NamesTarget options.target (Ok target) → options.target ≡ Some target
  unfolding NamesTarget ChecksTarget
  target_named target h =
      let there = passed _ _ _ h in
      let checks = passed _ _ _ there.rest_held in
      took _ _ _ there.first_held ∙ ap Some (sym (gave _ _ checks.rest_held))

  identified : (identity : Identity) → Identifies context options (Ok identity) → HasIdentity context options identity
  unfolding Identifies NamesIdentity
  identified identity h =
      let credentials = passed _ _ _ h in
      let client = passed _ _ _ credentials.rest_held in
      let is : identity ≡ identity_of context credentials.found options.env client.found = gave _ _ client.rest_held in
      let made : HasIdentity context options (identity_of context credentials.found options.env client.found) =
      record { credentials = took _ _ _ credentials.first_held; client = client.first_held; rules = refl } in
      subst (λ (i : Identity). HasIdentity context options i) (sym is) made

  sought : SeeksTicket context options (Ok initiation) → IsBegun context options initiation
  unfolding SeeksTicket
  sought h =
      let target = passed _ _ _ h in
      let tgt = passed _ _ _ target.rest_held in
      let identity = passed _ _ _ tgt.rest_held in
      let has = identified identity.found identity.first_held in
      let seeks : IsSought context options (seeker_of context options target.found tgt.found identity.found) =
      record { credentials = has.credentials; client = has.client; rules = has.rules; target = target_named target.found target.first_held; flags = refl } in
      subst Is (sym (gave _ _ identity.rest_held)) seeks

  requested : is_before context.state ≡ true → RequestsTgt context options (Ok initiation) → IsBegun context options initiation
  unfolding RequestsTgt
  requested before h = let target = passed _ _ _ h in subst Is (sym (gave _ _ target.rest_held)) (record { state = before; params = refl })

  begun_new : (asks_service : Bool) → is_before context.state ≡ true → BeginsNew asks_service context options (Ok initiation) → IsBegun context options initiation
  begun_new true before h = requested before h
  begun_new false before h = sought h

  begun_in : (state : KerberosState) → context.state ≡ state → BeginsIn state context options (Ok initiation) → IsBegun context options initiation
  begun_in TgtExchange is h = begun_new _ (ap is_before is) h
  begun_in Preauthentication is h = sought h
  begun_in ApExchange is h = subst Is (sym (gave _ _ h)) (record { state = is; is = refl; token_is = refl })
  begun_in Final is h = absurd cc

  pub is_begun : BeginsInitiation context options (Ok initiation) → IsBegun context options initiation
  is_begun h = begun_in context.state refl h
