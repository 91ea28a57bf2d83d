-- The facts about an initiator that takes only fresh replies, after the events of a run.
use Rattle.std.proofs.Common.{◌≡◌, ℕ, inl, inr, true, List, [], ◌∷◌, ◌++◌, map, Option, Some, None, Result, refl, sym, ap, ◌∙◌, subst, append_assoc}
use Rattle.std.specs.Prelude.{IfSome}
use Rattle.std.proofs.lemmas.List.{append-nil}
use Rattle.krb_context.specs.declared.context.Kerberos.{Kerberos}
use Rattle.krb_context.specs.declared.state.KerberosState.{KerberosState}
use Rattle.krb_context.specs.declared.state.KerberosState.TheVariants.{TgtExchange, Preauthentication, ApExchange, Final}
use Rattle.krb_machine.specs.declared.run.Run.{Run}
use Rattle.krb_machine.specs.declared.run.Run.TheVariants.{Accepts, Initiates}
use Rattle.krb_initiator.specs.FreshRuns.{Arrival, CameFresh}
use Rattle.krb_initiator.specs.declared.init_run.InitRun.{InitRun}
use Rattle.krb_initiator.specs.declared.seeker.Initiation.TheVariants.{Seeks}
use Rattle.krb_initiator.specs.declared.seeker.Seeker.{Seeker}
use Rattle.krb_script.specs.declared.item.Event.{Event}
use Rattle.sspi_generator.specs.declared.network.NetFault.{NetFault}
use Rattle.krb_machine.specs.Initiations.{is_before}
use Rattle.krb_machine.specs.Policy.{draw_of}
use Rattle.krb_machine.specs.declared.connection.Connection.{Connection}
use Rattle.krb_laws_origin.specs.Origins.{is_heard, answer_to}
use Rattle.krb_laws_origin.specs.Freshness.{arrival_at, arrivals_by, arrivals_in, IsExchange, SeeksFor, IsFreshLogIn, HasFreshKey, IsAnswered, IsEstablished, IsToBegin}
use Rattle.krb_laws_origin.proofs.Known.{IsQuiet}

-- ---- exchanges

-- the stretch goes on to the last event
pub record IsComing (id : ℕ) (start : Event) (arrivals : List Arrival) (events : List Event) : Type 0 where
  pub earlier : List Event
  pub during : List Event
  pub are : events ≡ earlier ++ (start ∷ during)
  pub is_for : is_heard id start ≡ true
  pub brought : arrivals_in id during ≡ arrivals

module _ (id : ℕ) where
  -- a stretch begins with the last event
  pub coming_first : (events : List Event) (start : Event) → is_heard id start ≡ true → IsComing id start [] (events ++ start ∷ [])
  coming_first events start heard = record { earlier = events; during = []; are = refl; is_for = heard; brought = refl }

  arrivals_more : (events : List Event) (event : Event) → arrivals_in id (events ++ event ∷ []) ≡ arrivals_in id events ++ arrivals_by id event
  arrivals_more [] event = append-nil (arrivals_by id event)
  arrivals_more (first ∷ events) event =
      ap (λ (a : List Arrival). arrivals_by id first ++ a) (arrivals_more events event) ∙ sym (append_assoc (arrivals_by id first) (arrivals_in id events) (arrivals_by id event))

  -- a stretch goes on with the replies that the next event brings
  pub coming_on : (start : Event) (arrivals more : List Arrival) (events : List Event) (event : Event) → arrivals_by id event ≡ more → IsComing id start arrivals events
      → IsComing id start (arrivals ++ more) (events ++ event ∷ [])
  coming_on start arrivals more events event brings coming = record {
    earlier = coming.earlier;
    during = coming.during ++ event ∷ [];
    are = ap (λ (e : List Event). e ++ event ∷ []) coming.are ∙ append_assoc coming.earlier (start ∷ coming.during) (event ∷ []);
    is_for = coming.is_for;
    brought = arrivals_more coming.during event ∙ ap (λ (a : List Arrival). a ++ arrivals_by id event) coming.brought ∙ ap (λ (a : List Arrival). arrivals ++ a) brings;
  }

  pub coming_still : (start : Event) (arrivals : List Arrival) (events : List Event) (event : Event) → answer_to id event ≡ [] → IsComing id start arrivals events → IsComing id start arrivals (events ++ event ∷ [])
  coming_still start arrivals events event quiet coming =
      subst (λ (a : List Arrival). IsComing id start a (events ++ event ∷ [])) (append-nil arrivals)
      (coming_on start arrivals [] events event (ap (λ (r : List (Result (List ℕ) NetFault)). map (arrival_at event) r) quiet) coming)

  -- a stretch may end at the last event
  pub coming_over : (start : Event) (arrivals : List Arrival) (events : List Event) → IsComing id start arrivals events → IsExchange id start arrivals events
  coming_over start arrivals events coming = record {
    earlier = coming.earlier;
    during = coming.during;
    later = [];
    are = coming.are ∙ ap (λ (e : List Event). coming.earlier ++ (start ∷ e)) (sym (append-nil coming.during));
    is_for = coming.is_for;
    brought = coming.brought;
  }

-- ---- the facts

-- the run fetches a ticket for this connection, and each reply that led it so far came by these events and answers its request
pub record IsFetchingFresh (first : Connection) (id : ℕ) (events : List Event) (run : InitRun) : Type 0 where
  pub start : Event
  pub seeker : Seeker
  pub seeks_is : run.initiation ≡ Seeks seeker
  pub seeks : SeeksFor first start seeker
  pub arrivals : List Arrival
  pub coming : IsComing id start arrivals events
  pub came : CameFresh seeker (draw_of start) arrivals run.phase

abbrev pub IsUnderWay : Connection → ℕ → List Event → Run → Type 0
IsUnderWay first id events (Accepts run) = ⊥
IsUnderWay first id events (Initiates run) = IsFetchingFresh first id events run

-- the facts in each state about the session key and the moment of an authenticator
abbrev pub IsAtStage : Connection → ℕ → List Event → KerberosState → Option (List ℕ) → Option ℕ → Type 0
IsAtStage first id events TgtExchange key shown_at = key ≡ None
IsAtStage first id events Preauthentication key shown_at = key ≡ None
IsAtStage first id events ApExchange key shown_at = HasFreshKey first id events key shown_at
IsAtStage first id events Final key shown_at = IsEstablished first id events key shown_at

abbrev pub StageOf : Connection → ℕ → List Event → Kerberos → Type 0
StageOf first id events context = IsAtStage first id events context.state context.encryption_params.session_key context.asked_at

-- the parts that no exchange changes
pub record IsStill (first connection : Connection) : Type 0 where
  pub role : connection.context.server ≡ None
  pub identity : connection.context.auth_identity ≡ first.context.auth_identity
  pub config : connection.context.config ≡ first.context.config
  pub rules : connection.context.rules ≡ first.context.rules
  pub target : connection.target ≡ first.target

pub record StandsFresh (first : Connection) (id : ℕ) (events : List Event) (connection : Connection) : Type 0 where
  pub still : IsStill first connection
  pub stage : StageOf first id events connection.context
  pub exchange : IfSome connection.exchange (λ run. IsUnderWay first id events run)

-- ---- one more event

module _ (first : Connection) (id : ℕ) (events : List Event) (event : Event) where
  abbrev now : List Event
  now = events ++ event ∷ []

  pub exchange_before : (start : Event) (arrivals : List Arrival) → IsExchange id start arrivals events → IsExchange id start arrivals now
  exchange_before start arrivals h = record {
    earlier = h.earlier;
    during = h.during;
    later = h.later ++ event ∷ [];
    are =
        ap (λ (e : List Event). e ++ event ∷ []) h.are
        ∙ append_assoc h.earlier (start ∷ (h.during ++ h.later)) (event ∷ [])
        ∙ ap (λ (e : List Event). h.earlier ++ (start ∷ e)) (append_assoc h.during h.later (event ∷ []));
    is_for = h.is_for;
    brought = h.brought;
  }

  unfoldable pub log_in_before : (key : List ℕ) (shown_at : ℕ) → IsFreshLogIn first id events key shown_at → IsFreshLogIn first id now key shown_at
  log_in_before key shown_at h = record {
    start = h.start;
    seeker = h.seeker;
    seeks = h.seeks;
    arrivals = h.arrivals;
    exchange = exchange_before h.start h.arrivals h.exchange;
    last = h.last;
    at = h.at;
    chain = h.chain;
    is_service = h.is_service;
    for_target = h.for_target;
    key_is = h.key_is;
    shown_is = h.shown_is;
  }

  pub key_before : (key : Option (List ℕ)) (shown_at : Option ℕ) → HasFreshKey first id events key shown_at → HasFreshKey first id now key shown_at
  key_before key shown_at h = record { octets = h.octets; has_key = h.has_key; moment = h.moment; was_shown = h.was_shown; log_in = log_in_before h.octets h.moment h.log_in }

  answered_before : (start : Event) (arrivals : List Arrival) (key : List ℕ) (moment : ℕ) → IsAnswered id start arrivals events key moment → IsAnswered id start arrivals now key moment
  answered_before start arrivals key moment h = record {
    earlier = h.earlier;
    event = h.event;
    later = h.later ++ event ∷ [];
    are = ap (λ (e : List Event). e ++ event ∷ []) h.are ∙ append_assoc h.earlier (h.event ∷ h.later) (event ∷ []);
    behind = h.behind;
    is_for = h.is_for;
    token = h.token;
    brings = h.brings;
    message = h.message;
    is_message = h.is_message;
    suite = h.suite;
    part = h.part;
    opened = h.opened;
    time = h.time;
  }

  established_before : (key : Option (List ℕ)) (shown_at : Option ℕ) → IsEstablished first id events key shown_at → IsEstablished first id now key shown_at
  unfolding key_before log_in_before
  established_before key shown_at h =
      record { fresh = key_before key shown_at h.fresh; answered = λ rule asked. answered_before h.fresh.log_in.start h.fresh.log_in.arrivals h.fresh.octets h.fresh.moment (h.answered rule asked) }

  at_stage_before : (state : KerberosState) (key : Option (List ℕ)) (shown_at : Option ℕ) → IsAtStage first id events state key shown_at → IsAtStage first id now state key shown_at
  at_stage_before TgtExchange key shown_at h = h
  at_stage_before Preauthentication key shown_at h = h
  at_stage_before ApExchange key shown_at h = key_before key shown_at h
  at_stage_before Final key shown_at h = established_before key shown_at h

  pub stage_before : (context : Kerberos) → StageOf first id events context → StageOf first id now context
  stage_before context h = at_stage_before context.state context.encryption_params.session_key context.asked_at h

  way_before : (exchange : Option Run) → IsQuiet id event exchange → IfSome exchange (λ run. IsUnderWay first id events run) → IfSome exchange (λ run. IsUnderWay first id now run)
  way_before None quiet h = tt
  way_before (Some (Accepts run)) quiet h = absurd h
  way_before (Some (Initiates run)) (inl free) h = absurd cc
  way_before (Some (Initiates run)) (inr quiet) h = record {
    start = h.start;
    seeker = h.seeker;
    seeks_is = h.seeks_is;
    seeks = h.seeks;
    arrivals = h.arrivals;
    coming = coming_still id h.start h.arrivals events event quiet h.coming;
    came = h.came;
  }

  pub fresh_before : (connection : Connection) → IsQuiet id event connection.exchange → StandsFresh first id events connection → StandsFresh first id now connection
  fresh_before connection quiet h = record { still = h.still; stage = stage_before connection.context h.stage; exchange = way_before connection.exchange quiet h.exchange }

-- ---- the initiator's own events

module _ (first : Connection) (id : ℕ) (events : List Event) (connection : Connection) (still : IsStill first connection) where
  pub fresh_free : StageOf first id events connection.context → StandsFresh first id events (record connection { exchange = None })
  fresh_free stage =
      record { still = record { role = still.role; identity = still.identity; config = still.config; rules = still.rules; target = still.target }; stage = stage; exchange = tt }

  pub fresh_waiting : (run : InitRun) → StageOf first id events connection.context → IsFetchingFresh first id events run → StandsFresh first id events (record connection { exchange = Some (Initiates run) })
  fresh_waiting run stage fetching =
      record { still = record { role = still.role; identity = still.identity; config = still.config; rules = still.rules; target = still.target }; stage = stage; exchange = fetching }

  -- a connection that awaits no KDC is unchanged
  pub fresh_still : StageOf first id events connection.context → connection.exchange ≡ None → StandsFresh first id events connection
  fresh_still stage free =
      record { still = still; stage = stage; exchange = subst (λ (r : Option Run). IfSome r (λ run. IsUnderWay first id events run)) (sym free) tt }

-- an initiator before its events
key_before_start : (first : Connection) (id : ℕ) (state : KerberosState) (key : Option (List ℕ)) (shown_at : Option ℕ) → is_before state ≡ true → key ≡ None → IsAtStage first id [] state key shown_at
key_before_start first id TgtExchange key shown_at e none = none
key_before_start first id Preauthentication key shown_at e none = none
key_before_start first id ApExchange key shown_at e none = absurd cc
key_before_start first id Final key shown_at e none = absurd cc

pub fresh_first : (first : Connection) (id : ℕ) → IsToBegin first → StandsFresh first id [] first
fresh_first first id begins =
    let context : Kerberos = first.context in
    fresh_still first id [] first (record { role = begins.role; identity = refl; config = refl; rules = refl; target = refl })
    (key_before_start first id context.state context.encryption_params.session_key context.asked_at begins.state begins.key) begins.free
