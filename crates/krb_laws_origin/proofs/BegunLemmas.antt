-- An initiation is for the initiator's own context and credentials.
use Rattle.std.proofs.Common.{◌≡◌, Bool, true, false, Some, Ok, refl, sym, ap, ◌∙◌, subst}
use Rattle.sspi_core.proofs.Chain.{passed, gave, took}
use Rattle.krb_context.specs.declared.context.Kerberos.{Kerberos}
use Rattle.krb_context.specs.declared.state.KerberosState.{KerberosState}
use Rattle.krb_context.specs.declared.state.KerberosState.TheVariants.{TgtExchange, Preauthentication, ApExchange, Final}
use Rattle.krb_initiator.specs.declared.begin.Identity.{Identity}
use Rattle.krb_initiator.specs.declared.options.InitOptions.{InitOptions}
use Rattle.krb_initiator.specs.declared.seeker.Initiation.{Initiation}
use Rattle.krb_initiator.specs.declared.seeker.Initiation.TheVariants.{Requests, Seeks, Hears}
use Rattle.krb_initiator.specs.Beginnings.{identity_of, NamesIdentity, Identifies, SeeksTicket, RequestsTgt, BeginsNew, BeginsIn, BeginsInitiation}

-- an initiation keeps the context's keys, or fetches a ticket for its caller's credentials, by the context's rules
abbrev pub IsFor : Kerberos → InitOptions → Initiation → Type 0
IsFor context options (Requests initiator token) = initiator.params ≡ context.encryption_params
IsFor context options (Seeks seeker) = (options.credentials ≡ Some seeker.asker.credentials) × (seeker.asker.rules ≡ context.rules)
IsFor context options (Hears initiator token) = initiator.params ≡ context.encryption_params

module _ (context : Kerberos) (options : InitOptions) (initiation : Initiation) where
  abbrev Is : Initiation → Type 0
  Is i = IsFor context options i

  identified : (identity : Identity) → Identifies context options (Ok identity)
      → (options.credentials ≡ Some identity.asker.credentials) × (identity.asker.rules ≡ context.rules)
  unfolding Identifies NamesIdentity
  identified identity h =
      let credentials = passed _ _ _ h in
      let client = passed _ _ _ credentials.rest_held in
      let is : identity ≡ identity_of context credentials.found options.env client.found = gave _ _ client.rest_held in
      (took _ _ _ credentials.first_held ∙ ap (λ (i : Identity). Some i.asker.credentials) (sym is), ap (λ (i : Identity). i.asker.rules) is)

  seeks_for : SeeksTicket context options (Ok initiation) → IsFor context options initiation
  unfolding SeeksTicket
  seeks_for h =
      let target = passed _ _ _ h in
      let tgt = passed _ _ _ target.rest_held in
      let identity = passed _ _ _ tgt.rest_held in
      subst Is (sym (gave _ _ identity.rest_held)) (identified identity.found identity.first_held)

  requests_for : RequestsTgt context options (Ok initiation) → IsFor context options initiation
  unfolding RequestsTgt
  requests_for h = let target = passed _ _ _ h in subst Is (sym (gave _ _ target.rest_held)) refl

  new_for : (asks_service : Bool) → BeginsNew asks_service context options (Ok initiation) → IsFor context options initiation
  new_for true h = requests_for h
  new_for false h = seeks_for h

  in_for : (state : KerberosState) → BeginsIn state context options (Ok initiation) → IsFor context options initiation
  in_for TgtExchange h = new_for _ h
  in_for Preauthentication h = seeks_for h
  in_for ApExchange h = subst Is (sym (gave _ _ h)) refl
  in_for Final h = absurd cc

  pub begins_for : BeginsInitiation context options (Ok initiation) → IsFor context options initiation
  begins_for h = in_for context.state h
