-- The facts about an initiator after the events of a run.
use Rattle.std.proofs.Common.{◌≡◌, ℕ, inl, inr, List, [], ◌∷◌, ◌++◌, Option, Some, None, refl, sym, ap, ◌∙◌, subst}
use Rattle.std.specs.Prelude.{◌⊎◌, IfSome, option_map}
use Rattle.krb_context.specs.Rules.{no_rules}
use Rattle.krb_context.specs.Contexts.{settled, with_key}
use Rattle.krb_context.specs.declared.context.ContextChange.{ContextChange}
use Rattle.krb_context.specs.declared.context.Kerberos.{Kerberos}
use Rattle.krb_context.specs.declared.server.ServerProperties.{ServerProperties}
use Rattle.krb_machine.specs.declared.run.Run.{Run}
use Rattle.krb_machine.specs.declared.run.Run.TheVariants.{Accepts, Initiates}
use Rattle.krb_initiator.specs.declared.init_run.InitRun.{InitRun}
use Rattle.krb_initiator.specs.declared.seeker.Initiation.TheVariants.{Seeks}
use Rattle.krb_initiator.specs.declared.seeker.Seeker.{Seeker}
use Rattle.krb_script.specs.declared.item.Event.{Event}
use Rattle.sspi_core.specs.declared.identity.CredentialsBuffers.{CredentialsBuffers}
use Rattle.krb_machine.specs.declared.connection.Connection.{Connection}
use Rattle.krb_laws_origin.specs.Origins.{answer_to, HasOrigin, IsKeyless}
use Rattle.krb_laws_origin.proofs.BroughtLemmas.{origin_before, AreComing, coming_still}
use Rattle.krb_laws_origin.proofs.PhaseLemmas.{Led}

-- the run fetches a ticket for this identity, and the replies that led it so far came by these events
pub record IsFetching (identity : Option CredentialsBuffers) (id : ℕ) (events : List Event) (run : InitRun) : Type 0 where
  pub seeker : Seeker
  pub seeks : run.initiation ≡ Seeks seeker
  pub speaks : identity ≡ Some seeker.asker.credentials
  pub none_set : seeker.asker.rules ≡ no_rules
  pub replies : List (List ℕ)
  pub coming : AreComing id replies events
  pub led : Led seeker replies run.phase

abbrev pub IsUnderWay : Option CredentialsBuffers → ℕ → List Event → Run → Type 0
IsUnderWay identity id events (Accepts run) = ⊥
IsUnderWay identity id events (Initiates run) = IsFetching identity id events run

-- an initiator of this identity, whose session key, if it has one, has its origin in these events
pub record Speaks (identity : Option CredentialsBuffers) (id : ℕ) (events : List Event) (connection : Connection) : Type 0 where
  pub role : connection.context.server ≡ None
  pub identity_is : connection.context.auth_identity ≡ identity
  pub none_set : connection.context.rules ≡ no_rules
  pub key : IfSome connection.context.encryption_params.session_key (λ key. HasOrigin identity id events key)

-- an initiator of this identity, whose exchange, if it awaits a KDC, is under way
pub record Stands (identity : Option CredentialsBuffers) (id : ℕ) (events : List Event) (connection : Connection) : Type 0 where
  pub speaks : Speaks identity id events connection
  pub exchange : IfSome connection.exchange (λ run. IsUnderWay identity id events run)

-- the connection awaits no KDC, or the event brings it nothing
abbrev pub IsQuiet : ℕ → Event → Option Run → Type 0
IsQuiet id event exchange = (exchange ≡ None) ⊎ (answer_to id event ≡ [])

module _ (identity : Option CredentialsBuffers) (id : ℕ) where
  -- the connection awaits no KDC
  free_way : (events : List Event) (exchange : Option Run) → exchange ≡ None → IfSome exchange (λ run. IsUnderWay identity id events run)
  free_way events exchange e = subst (λ (r : Option Run). IfSome r (λ run. IsUnderWay identity id events run)) (sym e) tt

  pub stands_still : (events : List Event) (connection : Connection) → Speaks identity id events connection → connection.exchange ≡ None → Stands identity id events connection
  stands_still events connection speaks free = record { speaks = speaks; exchange = free_way events connection.exchange free }

  -- one more event
  module _ (events : List Event) (event : Event) where
    abbrev now : List Event
    now = events ++ event ∷ []

    key_before : (key : Option (List ℕ)) → IfSome key (λ key. HasOrigin identity id events key) → IfSome key (λ key. HasOrigin identity id now key)
    key_before None h = tt
    key_before (Some key) h = origin_before id events (event ∷ []) identity key h

    pub speaks_before : (connection : Connection) → Speaks identity id events connection → Speaks identity id now connection
    speaks_before connection h = record { role = h.role; identity_is = h.identity_is; none_set = h.none_set; key = key_before connection.context.encryption_params.session_key h.key }

    way_before : (exchange : Option Run) → IsQuiet id event exchange → IfSome exchange (λ run. IsUnderWay identity id events run) → IfSome exchange (λ run. IsUnderWay identity id now run)
    way_before None quiet h = tt
    way_before (Some (Accepts run)) quiet h = absurd h
    way_before (Some (Initiates run)) (inl free) h = absurd cc
    way_before (Some (Initiates run)) (inr quiet) h =
        record { seeker = h.seeker; seeks = h.seeks; speaks = h.speaks; none_set = h.none_set; replies = h.replies; coming = coming_still id h.replies events event h.coming quiet; led = h.led }

    -- the event brings the connection nothing, or finds that it awaits no KDC
    pub stands_before : (connection : Connection) → IsQuiet id event connection.exchange → Stands identity id events connection → Stands identity id now connection
    stands_before connection quiet h = record { speaks = speaks_before connection h.speaks; exchange = way_before connection.exchange quiet h.exchange }

  module _ (events : List Event) (connection : Connection) (speaks : Speaks identity id events connection) where
    -- an exchange that is refused is over, and the context is unchanged
    pub stands_free : Stands identity id events (record connection { exchange = None })
    stands_free = record { speaks = record { role = speaks.role; identity_is = speaks.identity_is; none_set = speaks.none_set; key = speaks.key }; exchange = tt }

    -- an exchange that waits goes on
    pub stands_waiting : (run : InitRun) → IsFetching identity id events run → Stands identity id events (record connection { exchange = Some (Initiates run) })
    stands_waiting run fetching = record { speaks = record { role = speaks.role; identity_is = speaks.identity_is; none_set = speaks.none_set; key = speaks.key }; exchange = fetching }

    -- the end of an exchange makes a change, whose key is to have its origin
    pub stands_settled : (change : ContextChange) → IfSome change.encryption_params.session_key (λ key. HasOrigin identity id events key)
        → Stands identity id events (record connection { context = settled connection.context change; exchange = None })
    stands_settled change key = record {
      speaks = record { role = ap (λ (s : Option ServerProperties). option_map (with_key change.ticket_decryption_key) s) speaks.role; identity_is = speaks.identity_is; none_set = speaks.none_set; key = key };
      exchange = tt;
    }

    with_same : (old new : Option (List ℕ)) → new ≡ old → IfSome old (λ key. HasOrigin identity id events key) → IfSome new (λ key. HasOrigin identity id events key)
    with_same old new same h = subst (λ (k : Option (List ℕ)). IfSome k (λ key. HasOrigin identity id events key)) (sym same) h

    -- a change that keeps the key
    pub stands_kept : (change : ContextChange) → change.encryption_params.session_key ≡ connection.context.encryption_params.session_key
        → Stands identity id events (record connection { context = settled connection.context change; exchange = None })
    stands_kept change same = stands_settled change (with_same connection.context.encryption_params.session_key change.encryption_params.session_key same speaks.key)

    -- a context that keeps role, identity and key, if no KDC is awaited
    pub stands_beside : (context : Kerberos) → connection.exchange ≡ None → context.server ≡ connection.context.server → context.auth_identity ≡ connection.context.auth_identity
        → context.rules ≡ connection.context.rules → context.encryption_params.session_key ≡ connection.context.encryption_params.session_key → Stands identity id events (record connection { context = context })
    stands_beside context free role same set key = record {
      speaks = record {
        role = role ∙ speaks.role;
        identity_is = same ∙ speaks.identity_is;
        none_set = set ∙ speaks.none_set;
        key = with_same connection.context.encryption_params.session_key context.encryption_params.session_key key speaks.key;
      };
      exchange = free_way events connection.exchange free;
    }

-- without events the initiator has neither key nor exchange
pub stands_first : (id : ℕ) (connection : Connection) → IsKeyless connection → Stands connection.context.auth_identity id [] connection
stands_first id connection keyless =
    let identity : Option CredentialsBuffers = connection.context.auth_identity in
    let key : IfSome connection.context.encryption_params.session_key (λ key. HasOrigin identity id [] key) =
    subst (λ (k : Option (List ℕ)). IfSome k (λ key. HasOrigin identity id [] key)) (sym keyless.key) tt in
    stands_still identity id [] connection (record { role = keyless.role; identity_is = refl; none_set = keyless.none_set; key = key }) keyless.free
