-- The ticket of a cache, and its client.
use Rattle.std.proofs.Common.{◌≡◌, ℕ, Bool, true, false, List, [], ◌∷◌, Option, Some, None, Result, Ok, Err, refl, sym, ap, ◌∙◌, subst}
use Rattle.std.specs.Prelude.{if◌then◌else◌}
use Rattle.krb_as.specs.declared.key.Grant.{Grant}
use Rattle.krb_ccache.specs.Finding.{found, found_tgt}
use Rattle.krb_ccache.specs.declared.ccache.Ccache.{Ccache}
use Rattle.krb_ccache.specs.declared.credential.Credential.{Credential}
use Rattle.krb_conf.specs.Names.{target_parts}
use Rattle.krb_context.specs.Refusals.{Refuses}
use Rattle.sspi_core.proofs.Chain.{goes, stops, answers, follows, takes_some, took}
use Rattle.sspi_core.specs.Checks.{Answers, Takes, ok_or}
use Rattle.sspi_core.specs.Kinds.{error_of}
use Rattle.sspi_core.specs.Usernames.{UserName, UserPrincipal, user_name}
use Rattle.sspi_core.specs.declared.cause.Cause.{Cause}
use Rattle.sspi_core.specs.declared.cause.Cause.TheVariants.{BadUser, NoIdentity, Target}
use Rattle.sspi_core.specs.declared.error.Error.{Error}
use Rattle.sspi_core.specs.declared.error.Place.TheVariants.{Elsewhere}
use Rattle.krb_dialogue.proofs.Led.{refuses}
use Rattle.krb_dialogue.specs.Settings.{account_of, NamesHolder, either, ticket_in, HoldsAs, FindsAt, FindsFor, FindsTicket, NamesCacheHolder}
use Rattle.krb_dialogue.specs.declared.tickets.CacheTicket.{CacheTicket}
use Rattle.krb_dialogue.specs.declared.tickets.CacheTicket.TheVariants.{Service, Granting}

-- nothing is there
none_there : {A : Type 0} (refusal : Cause) (value : Option A) → value ≡ None → Takes refusal value (Err refusal)
none_there refusal value e = record { is = sym (ap (ok_or refusal) e) }

-- a ticket for a service on a host
module _ (cache : Ccache) (seconds : ℕ) (parts : List ℕ × List ℕ) (components : List (List ℕ)) (same : components ≡ parts.0 ∷ parts.1 ∷ []) where
  abbrev At : List (List ℕ) → Option Credential
  At names = found cache.principal cache.credentials names seconds

  abbrev tgt : Option Credential
  tgt = found_tgt cache.principal cache.credentials seconds

  tickets : (own granting : Option Credential) → At components ≡ own → tgt ≡ granting → ticket_in cache seconds parts ≡ either own granting
  tickets own granting e g = ap (λ (o : Option Credential). either o tgt) (ap At (sym same) ∙ e) ∙ ap (λ (o : Option Credential). either own o) g

  holds : (which : CacheTicket) (credential : Credential) (answer : Result (CacheTicket × Grant) Cause) → ticket_in cache seconds parts ≡ Some (which, credential)
      → Answers (HoldsAs (which, credential)) answer → Answers (FindsAt cache seconds parts) answer
  unfolding FindsAt
  holds which credential answer there held =
      goes (Takes NoIdentity (ticket_in cache seconds parts)) HoldsAs (which, credential) answer (answers _ _ (takes_some NoIdentity _ (which, credential) there)) held

  pub own_found : (credential : Credential) (answer : Result (CacheTicket × Grant) Cause) → At components ≡ Some credential
      → Answers (HoldsAs (Service, credential)) answer → Answers (FindsAt cache seconds parts) answer
  own_found credential answer there held = holds Service credential answer (tickets (Some credential) tgt there refl) held

  pub tgt_found : (credential : Credential) (answer : Result (CacheTicket × Grant) Cause) → At components ≡ None → tgt ≡ Some credential
      → Answers (HoldsAs (Granting, credential)) answer → Answers (FindsAt cache seconds parts) answer
  tgt_found credential answer none there held = holds Granting credential answer (tickets None (Some credential) none there) held

  pub none_found : At components ≡ None → tgt ≡ None → Answers (FindsAt cache seconds parts) (Err NoIdentity)
  unfolding FindsAt
  none_found none gone =
      stops (Takes NoIdentity (ticket_in cache seconds parts)) HoldsAs NoIdentity (Err NoIdentity) (answers _ _ (none_there NoIdentity _ (tickets None None none gone))) refl

-- for a target
module _ (target text : List ℕ) (cache : Ccache) (seconds : ℕ) (same : text ≡ target) where
  pub target_found : (parts : List ℕ × List ℕ) (answer : Result (CacheTicket × Grant) Cause) → target_parts text ≡ Some parts
      → Answers (FindsAt cache seconds parts) answer → Answers (FindsFor target cache seconds) answer
  unfolding FindsFor
  target_found parts answer named at =
      goes (Takes Target (target_parts target)) (λ p. FindsAt cache seconds p) parts answer (answers _ _ (takes_some Target _ parts (ap target_parts (sym same) ∙ named))) at

  pub target_refused : target_parts text ≡ None → Answers (FindsFor target cache seconds) (Err Target)
  unfolding FindsFor
  target_refused unnamed =
      stops (Takes Target (target_parts target)) (λ p. FindsAt cache seconds p) Target (Err Target) (answers _ _ (none_there Target _ (ap target_parts (sym same) ∙ unnamed))) refl

-- the client of a ticket
cut : {A : Type 0} (test : Bool) (x y : A) → (if test then Some x else None) ≡ Some y → y ≡ x
cut true x y e = cc
cut false x y e = absurd cc

pub holder_named : (held : Grant) (user : UserName) → NamesHolder held (Ok user) → user ≡ UserPrincipal (account_of held.rep.cname.name_string) held.rep.crealm
holder_named held user h = cut _ _ user (took BadUser (user_name (UserPrincipal (account_of held.rep.cname.name_string) held.rep.crealm)) user h)

-- the client of a cache is refused as its ticket is, or as the client of that
module _ (target : Option (List ℕ)) (cache : Ccache) (seconds : ℕ) where
  pub cache_refused : (cause : Cause) (error : Error) → Answers (FindsTicket target cache seconds) (Err cause) → error ≡ error_of cause
      → Refuses Elsewhere (NamesCacheHolder target cache seconds) error
  unfolding NamesCacheHolder
  cache_refused cause error found e =
      let refused : Answers (NamesCacheHolder target cache seconds) (Err cause)
      = stops (FindsTicket target cache seconds) (λ f. NamesHolder f.1) cause (Err cause) found refl in
      subst (λ (o : Error). Refuses Elsewhere (NamesCacheHolder target cache seconds) o) (sym e) (refuses (NamesCacheHolder target cache seconds) (Err cause) cause refused refl)

  pub holder_refused : (which : CacheTicket) (held : Grant) (error : Error) → Answers (FindsTicket target cache seconds) (Ok (which, held))
      → Refuses Elsewhere (NamesHolder held) error → Refuses Elsewhere (NamesCacheHolder target cache seconds) error
  unfolding NamesCacheHolder
  holder_refused which held error found refused = record {
    so =
        λ no_memory.
        let told = refused.so no_memory in
        (told.0, told.1, follows (FindsTicket target cache seconds) (λ f. NamesHolder f.1) (which, held) _ (found.so (λ e. absurd cc)) told.2);
  }
