-- The facts about an initiator that takes only fresh replies are kept by an event at its own connection.
use Rattle.std.proofs.Common.{◌≡◌, ℕ, true, List, [], ◌∷◌, ◌++◌, map, Option, Some, None, Result, Ok, Err, refl, sym, ap, ◌∙◌, subst}
use Rattle.std.specs.Prelude.{IfSome, nat_le}
use Rattle.std.proofs.lemmas.Bool.{eq-eqb}
use Rattle.krb_conf.specs.declared.config.KerberosConfig.{KerberosConfig}
use Rattle.krb_conf.specs.declared.env.Env.{Env}
use Rattle.krb_context.specs.Params.{suite_of}
use Rattle.krb_context.specs.Rules.{has_rule, fresh_replies, answers_its_authenticator}
use Rattle.krb_context.specs.declared.context.Kerberos.{Kerberos}
use Rattle.krb_context.specs.declared.rules.Rules.{Rules}
use Rattle.krb_context.specs.declared.state.KerberosState.{KerberosState}
use Rattle.krb_context.specs.declared.state.KerberosState.TheVariants.{ApExchange}
use Rattle.krb_as.specs.Clients.{NamesClient}
use Rattle.krb_as.specs.declared.done.InitDone.{InitDone}
use Rattle.krb_as.specs.declared.turn.Turn.TheVariants.{Asks, Ends}
use Rattle.krb_replies.specs.Answered.{OpensApRep}
use Rattle.krb_ap.specs.Answered.{is_time_of}
use Rattle.krb_ap.specs.declared.initiator.Initiator.{Initiator}
use Rattle.krb_initiator.proofs.FreshLemmas.{begins_fresh, goes_on_fresh, ends_fresh, hears_answer}
use Rattle.krb_initiator.specs.Beginnings.{initiator_of, BeginsInitiation}
use Rattle.krb_initiator.specs.FreshRuns.{Arrival, CameFresh, IsFreshSession, AnswersAuthenticator}
use Rattle.krb_initiator.specs.InitRuns.{Starts, StartsNew, Next}
use Rattle.krb_initiator.specs.InitSteps.{requested, HearsAnswer}
use Rattle.krb_initiator.specs.declared.init_run.InitRun.{InitRun}
use Rattle.krb_initiator.specs.declared.options.InitOptions.{InitOptions}
use Rattle.krb_initiator.specs.declared.seeker.InitPhase.{InitPhase}
use Rattle.krb_initiator.specs.declared.seeker.InitPhase.TheVariants.{New}
use Rattle.krb_initiator.specs.declared.seeker.Initiation.{Initiation}
use Rattle.krb_initiator.specs.declared.seeker.Initiation.TheVariants.{Requests, Seeks, Hears}
use Rattle.krb_initiator.specs.declared.seeker.Seeker.{Seeker}
use Rattle.krb_machine.specs.declared.run.Run.{Run}
use Rattle.krb_machine.specs.declared.run.Run.TheVariants.{Accepts, Initiates}
use Rattle.krb_script.specs.declared.item.Event.{Event}
use Rattle.sspi_core.specs.Moments.{last_moment}
use Rattle.sspi_core.specs.declared.cause.Cause.{Cause}
use Rattle.sspi_generator.specs.declared.network.NetFault.{NetFault}
use Rattle.krb_machine.specs.Exchanges.{GoesOn, OpensExchange, answer_of}
use Rattle.krb_machine.specs.Initiations.{SetsOut, Undertakes, options_of, token_heard}
use Rattle.krb_machine.specs.MessageCalls.{Calls}
use Rattle.krb_machine.specs.Policy.{draw_of}
use Rattle.krb_machine.specs.declared.connection.Connection.{Connection}
use Rattle.krb_machine.specs.declared.reply.Reply.{Reply}
use Rattle.krb_laws_origin.specs.Origins.{is_heard}
use Rattle.krb_laws_origin.specs.Freshness.{arrival_at, SeeksFor, IsFreshLogIn, HasFreshKey, IsAnswered, IsEstablished}
use Rattle.krb_laws_origin.proofs.AnsweredLemmas.{hears_end, hears_ends}
use Rattle.krb_laws_origin.proofs.CallLemmas.{calls_keep}
use Rattle.krb_laws_origin.proofs.FreshBegun.{IsSought, IsRequested, IsBegun, is_begun}
use Rattle.krb_laws_origin.proofs.FreshKnown.{IsComing, coming_first, coming_on, coming_over, IsFetchingFresh, IsUnderWay, IsAtStage, StageOf, StandsFresh, log_in_before, stage_before, fresh_free, fresh_waiting, fresh_still}
use Rattle.krb_laws_origin.proofs.FreshStages.{fresh_settled, fresh_shown, key_none, key_awaiting, token_brought}
use Rattle.krb_laws_origin.proofs.PhaseLemmas.{starts_not_ended}
use Rattle.krb_laws_origin.proofs.ReplyLemmas.{come}
use Rattle.krb_laws_origin.proofs.TurnLemmas.{Answer, begun, gone_on, Lands, lands}

module _ (first : Connection) (id : ℕ) (events : List Event) (event : Event) (connection : Connection) (stands : StandsFresh first id events connection) where
  abbrev now : List Event
  now = events ++ event ∷ []

  abbrev Holds : Connection → Type 0
  Holds c = StandsFresh first id now c

  stage_now : StageOf first id now connection.context
  stage_now = stage_before first id events event connection.context stands.stage

  -- ---- a call

  called_stage : (before after : Kerberos) → after.state ≡ before.state → after.encryption_params.session_key ≡ before.encryption_params.session_key → after.asked_at ≡ before.asked_at
      → StageOf first id now before → StageOf first id now after
  called_stage before after state key shown_at h =
      subst (λ (s : KerberosState). IsAtStage first id now s after.encryption_params.session_key after.asked_at) (sym state)
      (subst (λ (k : Option (List ℕ)). IsAtStage first id now before.state k after.asked_at) (sym key)
      (subst (λ (m : Option ℕ). IsAtStage first id now before.state before.encryption_params.session_key m) (sym shown_at) h))

  pub called_fresh : (reply : Reply) (context : Kerberos) → connection.exchange ≡ None → Calls event.input connection.context event.random reply context → Holds (record connection { context = context })
  called_fresh reply context free calls =
      let keeps = calls_keep event.input connection.context event.random reply context calls in
      record {
        still = record {
          role = keeps.role ∙ stands.still.role;
          identity = keeps.identity ∙ stands.still.identity;
          config = keeps.config ∙ stands.still.config;
          rules = keeps.set ∙ stands.still.rules;
          target = stands.still.target;
        };
        stage = called_stage connection.context context keeps.state keeps.key keeps.shown_at stage_now;
        exchange = subst (λ (r : Option Run). IfSome r (λ run. IsUnderWay first id now run)) (sym free) tt;
      }

  -- ---- the initiator's own events

  module _ (here : event.connection ≡ id) (in_range : nat_le event.moment last_moment ≡ true) where
    is_for : is_heard id event ≡ true
    is_for = rw (eq-eqb event.connection id here, in_range) refl

    -- ---- an answer of the network

    module _ (rule : has_rule first.context.rules fresh_replies ≡ true) (old : InitRun) (fetching : IsFetchingFresh first id events old) (brought : Result (List ℕ) NetFault) (is : answer_of event.input ≡ Some brought) where
      abbrev arrivals : List Arrival
      arrivals = fetching.arrivals ++ arrival_at event brought ∷ []

      seeker_rule : has_rule fetching.seeker.asker.rules fresh_replies ≡ true
      seeker_rule = ap (λ (r : Rules). has_rule r fresh_replies) fetching.seeks.rules ∙ rule

      coming : IsComing id fetching.start arrivals now
      coming =
          coming_on id fetching.start fetching.arrivals (arrival_at event brought ∷ []) events event
          (ap (λ (r : List (Result (List ℕ) NetFault)). map (arrival_at event) r) (come id event brought here in_range is)) fetching.coming

      waits_again : (later : InitRun) (phase : InitPhase) (next : Connection) → later.initiation ≡ old.initiation → CameFresh fetching.seeker (draw_of fetching.start) arrivals phase → later.phase ≡ phase
          → next ≡ record connection { exchange = Some (Initiates later) } → Holds next
      waits_again later phase next stays came at is =
          let goes_on : IsFetchingFresh first id now later =
          record {
            start = fetching.start;
            seeker = fetching.seeker;
            seeks_is = stays ∙ fetching.seeks_is;
            seeks = fetching.seeks;
            arrivals = arrivals;
            coming = coming;
            came = subst (λ (p : InitPhase). CameFresh fetching.seeker (draw_of fetching.start) arrivals p) (sym at) came;
          } in
          subst Holds (sym is) (fresh_waiting first id now connection stands.still later stage_now goes_on)

      log_in : (done : InitDone) (session : IsFreshSession fetching.seeker (draw_of fetching.start) arrivals done) → IsFreshLogIn first id now session.last.key session.at.moment
      log_in done session = record {
        start = fetching.start;
        seeker = fetching.seeker;
        seeks = fetching.seeks;
        arrivals = arrivals;
        exchange = coming_over id fetching.start arrivals now coming;
        last = session.last;
        at = session.at;
        chain = session.chain;
        is_service = session.is_service;
        for_target = session.for_target;
        key_is = refl;
        shown_is = refl;
      }

      answers : (later : InitRun) (answer : Answer) (next : Connection) → later.initiation ≡ old.initiation → Next (Seeks fetching.seeker) old.phase brought (draw_of event) answer → Lands connection later answer next
          → Holds next
      unfolding log_in
      answers later (Ok (Asks request phase)) next stays h l =
          waits_again later phase next stays
          (goes_on_fresh fetching.seeker (draw_of fetching.start) seeker_rule fetching.arrivals (arrival_at event brought) old.phase request phase fetching.came h) l.0 l.1
      answers later (Ok (Ends done)) next stays h l =
          let session : IsFreshSession fetching.seeker (draw_of fetching.start) arrivals done =
          ends_fresh fetching.seeker (draw_of fetching.start) seeker_rule fetching.arrivals (arrival_at event brought) old.phase done fetching.came h in
          subst Holds (sym l)
          (fresh_shown first id now session.last.key session.at.moment (log_in done session) connection done stands.still session.session_key session.asked_at session.state)
      answers later (Err cause) next stays h l = subst Holds (sym l) (fresh_free first id now connection stands.still stage_now)

      goes : (reply : Reply) (next : Connection) → GoesOn connection (Initiates old) brought (draw_of event) reply next → Holds next
      goes reply next h =
          let t = gone_on old brought (draw_of event) h.step h.resumes in
          let held : Next (Seeks fetching.seeker) old.phase brought (draw_of event) t.answer =
          subst (λ (i : Initiation). Next i old.phase brought (draw_of event) t.answer) fetching.seeks_is t.held in
          answers t.later t.answer next t.stays held (lands connection t.later t.answer h.step reply next t.phase t.leads h.leads)

    goes_by : has_rule first.context.rules fresh_replies ≡ true → (run : Run) (brought : Result (List ℕ) NetFault) (reply : Reply) (next : Connection) → IsUnderWay first id events run
        → answer_of event.input ≡ Some brought → GoesOn connection run brought (draw_of event) reply next → Holds next
    goes_by rule (Accepts run) brought reply next way is h = absurd way
    goes_by rule (Initiates run) brought reply next way is h = goes rule run way brought is reply next h

    pub goes_on_fresh_at : has_rule first.context.rules fresh_replies ≡ true → (run : Run) (brought : Result (List ℕ) NetFault) (reply : Reply) (next : Connection) → connection.exchange ≡ Some run
        → answer_of event.input ≡ Some brought → GoesOn connection run brought (draw_of event) reply next → Holds next
    goes_on_fresh_at rule run brought reply next waits is h =
        let way : IsUnderWay first id events run = subst (λ (r : Option Run). IfSome r (λ run. IsUnderWay first id events run)) waits stands.exchange in
        goes_by rule run brought reply next way is h

    -- ---- an event of the exchange with the peer

    module _ (env : Env) (token : List ℕ) (free : connection.exchange ≡ None) (heard_is : token_heard connection.context.state event.input ≡ Ok token) where
      abbrev options : InitOptions
      options = options_of connection env event.flags token

      abbrev hearer : Initiator
      hearer = initiator_of connection.context connection.context.krb5_user_to_user event.flags

      -- the initiator takes the service's answer
      same_octets : (x y : List ℕ) (o : Option (List ℕ)) → o ≡ Some x → o ≡ Some y → x ≡ y
      same_octets x y o p q = let e : Some x ≡ Some y = sym p ∙ q in cc

      same_moment : (x y : ℕ) (o : Option ℕ) → o ≡ Some x → o ≡ Some y → x ≡ y
      same_moment x y o p q = let e : Some x ≡ Some y = sym p ∙ q in cc

      answered : (key : HasFreshKey first id events connection.context.encryption_params.session_key connection.context.asked_at) → connection.context.state ≡ ApExchange → AnswersAuthenticator hearer token
          → IsAnswered id key.log_in.start key.log_in.arrivals now key.octets key.moment
      answered key awaits a = record {
        earlier = events;
        event = event;
        later = [];
        are = refl;
        behind = key.log_in.exchange;
        is_for = is_for;
        token = token;
        brings = token_brought connection.context.state event.input token awaits heard_is;
        message = a.message;
        is_message = a.is_message;
        suite = suite_of connection.context.encryption_params;
        part = a.part;
        opened =
            subst (λ (k : List ℕ). OpensApRep (suite_of connection.context.encryption_params) k a.message (Ok a.part))
            (same_octets a.key key.octets connection.context.encryption_params.session_key a.has_key key.has_key) a.opened;
        time = subst (λ (m : ℕ). is_time_of a.part m ≡ true) (same_moment a.moment key.moment connection.context.asked_at a.asked_at key.was_shown) a.time;
      }

      hears_settled : (done : InitDone) → connection.context.state ≡ ApExchange → HearsAnswer hearer token (draw_of event) (Ok (Ends done))
          → IsAtStage first id now done.change.state done.change.encryption_params.session_key done.change.asked_at
      unfolding log_in_before
      hears_settled done awaits h =
          let key : HasFreshKey first id events connection.context.encryption_params.session_key connection.context.asked_at =
          key_awaiting first id events connection.context.state connection.context.encryption_params.session_key connection.context.asked_at awaits stands.stage in
          let end = hears_end hearer token (draw_of event) done h in
          let over : IsEstablished first id now done.change.encryption_params.session_key done.change.asked_at =
          record {
            fresh = record { octets = key.octets; has_key = end.key ∙ key.has_key; moment = key.moment; was_shown = end.shown_at ∙ key.was_shown; log_in = log_in_before first id events event key.octets key.moment key.log_in };
            answered = λ rule asked.
                answered key awaits (hears_answer hearer token (draw_of event) done (ap (λ (r : Rules). has_rule r answers_its_authenticator) stands.still.rules ∙ rule) h);
          } in
          subst (λ (s : KerberosState). IsAtStage first id now s done.change.encryption_params.session_key done.change.asked_at) (sym end.state) over

      hears_lands : (later : InitRun) (answer : Answer) (next : Connection) → connection.context.state ≡ ApExchange → HearsAnswer hearer token (draw_of event) answer → Lands connection later answer next → Holds next
      hears_lands later (Ok (Asks request phase)) next awaits h l = let e = (hears_ends hearer token (draw_of event) (Asks request phase) h).1 in absurd cc
      hears_lands later (Ok (Ends done)) next awaits h l = subst Holds (sym l) (fresh_settled first id now connection done.change stands.still (hears_settled done awaits h))
      hears_lands later (Err cause) next awaits h l = subst Holds (sym l) (fresh_free first id now connection stands.still stage_now)

      -- the initiator asks the service for the service's own ticket
      requests_lands : (initiator : Initiator) (request : List ℕ) (later : InitRun) (answer : Answer) (next : Connection) → IsRequested connection.context initiator → answer ≡ Ok (Ends (requested initiator request))
          → Lands connection later answer next → Holds next
      requests_lands initiator request later answer next is given l =
          let none : connection.context.encryption_params.session_key ≡ None =
          key_none first id now connection.context.state connection.context.encryption_params.session_key connection.context.asked_at is.state stage_now in
          subst Holds (sym (subst (λ (a : Answer). Lands connection later a next) given l))
          (fresh_settled first id now connection (requested initiator request).change stands.still (ap (λ p. p.session_key) is.params ∙ none))

      -- the initiator fetches a ticket
      seeks_for : (seeker : Seeker) → IsSought connection.context options seeker → SeeksFor first event seeker
      seeks_for seeker sought = record {
        identity = sym stands.still.identity ∙ sought.credentials;
        client = subst (λ (c : KerberosConfig). NamesClient seeker.asker.credentials c.client_computer_name seeker.asker.env (Ok seeker.client)) stands.still.config sought.client;
        rules = sought.rules ∙ stands.still.rules;
        target = sym stands.still.target ∙ sought.target;
        flags = sought.flags;
      }

      seeks_lands : (seeker : Seeker) (later : InitRun) (answer : Answer) (next : Connection) → IsSought connection.context options seeker → later.initiation ≡ Seeks seeker
          → StartsNew (Seeks seeker) (draw_of event) answer → Lands connection later answer next → Holds next
      seeks_lands seeker later (Ok (Asks request phase)) next sought seeks h l =
          let came : CameFresh seeker (draw_of event) [] later.phase =
          subst (λ (p : InitPhase). CameFresh seeker (draw_of event) [] p) (sym l.0) (begins_fresh seeker (draw_of event) request phase h) in
          let fetching : IsFetchingFresh first id now later =
          record { start = event; seeker = seeker; seeks_is = seeks; seeks = seeks_for seeker sought; arrivals = []; coming = coming_first id events event is_for; came = came } in
          subst Holds (sym l.1) (fresh_waiting first id now connection stands.still later stage_now fetching)
      seeks_lands seeker later (Ok (Ends done)) next sought seeks h l = absurd (starts_not_ended seeker (draw_of event) done h)
      seeks_lands seeker later (Err cause) next sought seeks h l = subst Holds (sym l) (fresh_free first id now connection stands.still stage_now)

      starts_lands : (initiation : Initiation) (later : InitRun) (answer : Answer) (next : Connection) → IsBegun connection.context options initiation → later.initiation ≡ initiation
          → StartsNew initiation (draw_of event) answer → Lands connection later answer next → Holds next
      starts_lands (Requests initiator request) later answer next is seeks h l = requests_lands initiator request later answer next is h.is l
      starts_lands (Seeks seeker) later answer next is seeks h l = seeks_lands seeker later answer next is seeks h l
      starts_lands (Hears initiator heard) later answer next is seeks h l =
          let own : HearsAnswer hearer heard (draw_of event) answer = subst (λ (i : Initiator). HearsAnswer i heard (draw_of event) answer) is.is h in
          hears_lands later answer next is.state (subst (λ (t : List ℕ). HearsAnswer hearer t (draw_of event) answer) is.token_is own) l

      opens : (initiation : Initiation) (run : InitRun) (reply : Reply) (next : Connection) → IsBegun connection.context options initiation → run.initiation ≡ initiation → run.phase ≡ New
          → OpensExchange connection (Initiates run) (draw_of event) reply next → Holds next
      opens initiation run reply next is initiation_is new h =
          let t = begun run (draw_of event) h.step h.begins in
          let held : StartsNew initiation (draw_of event) t.answer =
          subst (λ (i : Initiation). Starts i New (draw_of event) t.answer) initiation_is (subst (λ (p : InitPhase). Starts run.initiation p (draw_of event) t.answer) new t.held) in
          starts_lands initiation t.later t.answer next is (t.stays ∙ initiation_is) held (lands connection t.later t.answer h.step reply next t.phase t.leads h.leads)

      sets_out : (answer : Result Initiation Cause) (reply : Reply) (next : Connection) → ((initiation : Initiation) → answer ≡ Ok initiation → IsBegun connection.context options initiation)
          → SetsOut connection (draw_of event) answer reply next → Holds next
      sets_out (Ok initiation) reply next is h = opens initiation h.0 reply next (is initiation refl) h.1 h.2 h.3
      sets_out (Err cause) reply next is h = subst Holds (sym h.1) (fresh_still first id now connection stands.still stage_now free)

      pub undertakes_fresh : (reply : Reply) (next : Connection) → Undertakes connection options (draw_of event) reply next → Holds next
      undertakes_fresh reply next h =
          sets_out h.answer reply next
          (λ initiation is. is_begun connection.context options initiation (subst (λ (a : Result Initiation Cause). BeginsInitiation connection.context options a) is h.begins)) h.sets_out
