-- Each reply of a run answers the request that the run made, and so does the service's answer.
use Rattle.std.proofs.Common.{◌≡◌, inl, inr, ℕ, Bool, true, false, List, [], ◌∷◌, ◌++◌, Option, Some, None, Result, Ok, refl, sym, ap, ◌∙◌, subst, append_assoc}
use Rattle.std.specs.Prelude.{◌⊎◌, ◌&&◌, ◌||◌, if◌then◌else◌, is_some, not, unwrap_or}
use Rattle.std.proofs.lemmas.Bool.{and_parts}
use Rattle.krb_crypto.specs.declared.suite.CipherSuite.{CipherSuite}
use Rattle.krb_exchange.specs.declared.kdc_req.KdcReqBody.{KdcReqBody}
use Rattle.krb_messages.specs.declared.ap_rep.EncApRepPart.{EncApRepPart}
use Rattle.krb_context.specs.Rules.{has_rule, fresh_replies, answers_its_authenticator}
use Rattle.sspi_core.specs.Checks.{Finds}
use Rattle.sspi_core.specs.declared.cause.Cause.{Cause}
use Rattle.sspi_core.specs.declared.cause.Cause.TheVariants.{Nonce, ReplyNames, ReplyTime, Shape}
use Rattle.sspi_core.specs.declared.draw.Draw.{Draw}
use Rattle.sspi_core.specs.declared.protocol.NetworkProtocol.{NetworkProtocol}
use Rattle.sspi_core.proofs.Chain.{passed, gave, held, took}
use Rattle.sspi_generator.specs.declared.network.NetworkRequest.{NetworkRequest}
use Rattle.krb_replies.specs.Fresh.{AnswersRequest, AskedFor, same_components}
use Rattle.krb_replies.specs.Keys.{BringsNext}
use Rattle.krb_replies.specs.Realms.{referral_realm}
use Rattle.krb_as.specs.Askers.{default_salt}
use Rattle.krb_as.specs.AsPhases.{TakesReplyWithin}
use Rattle.krb_as.specs.FirstBodies.{first_body}
use Rattle.krb_as.specs.Fresh as as_replies
use Rattle.krb_as.specs.Fresh.{AnswersAsReq}
use Rattle.krb_as.specs.declared.as_phase.AsPhase.{AsPhase}
use Rattle.krb_as.specs.declared.as_phase.AsPhase.TheVariants.{AwaitsError, AwaitsAsRep}
use Rattle.krb_as.specs.declared.done.InitDone.{InitDone}
use Rattle.krb_as.specs.declared.kdc.Kdc.{Kdc}
use Rattle.krb_as.specs.declared.key.Grant.{Grant}
use Rattle.krb_as.specs.declared.key.SealedTime.{SealedTime}
use Rattle.krb_as.specs.declared.turn.Turn.{Turn}
use Rattle.krb_as.specs.declared.turn.Turn.TheVariants.{Asks, Ends}
use Rattle.krb_as.proofs.AsTurns.{asked_first, AskedSecond, WentOn, WentOnEarly, error_taken, as_rep_taken}
use Rattle.krb_tgs.specs.Fresh as tgs_replies
use Rattle.krb_tgs.specs.Fresh.{question_of, AnswersTgsReq, referral_of}
use Rattle.krb_tgs.proofs.Asked.{asked_realm, followed_realm, referred_to}
use Rattle.krb_tgs.specs.TgsAsked.{service_of}
use Rattle.krb_tgs.specs.declared.fresh.TgsQuestion.{TgsQuestion}
use Rattle.krb_tgs.proofs.Chains.{key_of, taken_tgs, TgsTaken}
use Rattle.krb_ap.specs.Answered.{IsApRep, ReadsApRep, TakesApRep, is_time_of, answers_at}
use Rattle.krb_ap.specs.Initiators.{is_bare}
use Rattle.krb_ap.specs.Shown.{shown as shown_to, ShowsTicket}
use Rattle.krb_ap.specs.declared.initiator.Initiator.{Initiator}
use Rattle.krb_initiator.specs.Came.{LeaveSalt}
use Rattle.krb_initiator.specs.FreshRuns.{Arrival, replies_in, AnswersStart, AnswersShown, BringsFurtherTicket, next_realm, LeadsOn, IsFreshChain, CameAgain, CameWithTicket, CameFresh, IsFreshSession, AnswersAuthenticator}
use Rattle.krb_initiator.specs.InitSteps.{body_of, AsksFirstTgs, Refers, Arrives, GoesTo, TakesNext, HearsAnswer}
use Rattle.krb_initiator.specs.InitRuns.{Starts, Next}
use Rattle.krb_initiator.specs.Tgts.{first_tickets}
use Rattle.krb_initiator.specs.declared.seeker.Seeker.{Seeker}
use Rattle.krb_initiator.specs.declared.seeker.TgsLeg.{TgsLeg}
use Rattle.krb_initiator.specs.declared.seeker.Initiation.TheVariants.{Seeks}
use Rattle.krb_initiator.specs.declared.seeker.InitPhase.{InitPhase}
use Rattle.krb_initiator.specs.declared.seeker.InitPhase.TheVariants.{New, InAsExchange, AwaitsTgsRep, Over}

-- which turn was given
pub same_turn : (request made : NetworkRequest) (next phase : InitPhase) → ◌≡◌ {A = Turn InitPhase InitDone} (Asks made next) (Asks request phase) → next ≡ phase
same_turn request made next phase e = cc

pub same_end : (x y : InitDone) → ◌≡◌ {A = Turn InitPhase InitDone} (Ends x) (Ends y) → x ≡ y
same_end x y e = cc

-- ---- what the checks let through

first_answers : (seeker : Seeker) (start : Draw) (moment : ℕ) (ticket : Grant) → AnswersAsReq (body_of seeker start) moment ticket.rep ticket.facts (Ok tt) → AnswersStart seeker start moment ticket
unfolding AnswersRequest first_body
first_answers seeker start moment ticket h =
    let nonce = passed _ _ _ h in
    let names = passed _ _ _ nonce.rest_held in
    let both = and_parts (as_replies.names_client (body_of seeker start) ticket.rep) (as_replies.names_service (body_of seeker start) ticket.facts) (held ReplyNames _ names.found names.first_held) in
    record { nonce = held Nonce _ nonce.found nonce.first_held; client = both.0; service = both.1; valid = held ReplyTime _ tt names.rest_held }

pub next_answers : (target realm : List ℕ) (shown : Grant) (asked : Draw) (moment : ℕ) (ticket : Grant)
    → AnswersTgsReq target realm (question_of shown.rep asked) moment ticket.rep ticket.facts (Ok tt) → AnswersShown target realm shown asked moment ticket
unfolding AnswersRequest
next_answers target realm shown asked moment ticket h =
    let nonce = passed _ _ _ h in
    let names = passed _ _ _ nonce.rest_held in
    let both = and_parts (tgs_replies.names_client (question_of shown.rep asked) ticket.rep) (tgs_replies.names_service target realm ticket.rep ticket.facts) (held ReplyNames _ names.found names.first_held) in
    record { nonce = held Nonce _ nonce.found nonce.first_held; client = both.0; service = both.1; valid = held ReplyTime _ tt names.rest_held }

-- a ticket that is no referral is for the target
not_referred : (rule is : Bool) (named : Option (List ℕ)) → rule ≡ true → (if rule && is then None else named) ≡ None → (is_some named || is) ≡ true → is ≡ true
not_referred rule true named a e h = refl
not_referred true false None a e h = h
not_referred true false (Some realm) a e h = absurd cc
not_referred false false named a e h = absurd cc

pub ends_at_target : (seeker : Seeker) (realm : List ℕ) (shown : Grant) (asked : Draw) (moment : ℕ) (ticket : Grant) → has_rule seeker.asker.rules fresh_replies ≡ true
    → AnswersShown seeker.wanted.target realm shown asked moment ticket → referral_of seeker.asker.rules seeker.wanted.target ticket.facts ticket.rep ≡ None
    → same_components ticket.facts.sname.name_string (service_of seeker.wanted.target) ≡ true
ends_at_target seeker realm shown asked moment ticket rule h none =
    not_referred (has_rule seeker.asker.rules fresh_replies) (tgs_replies.is_for_target seeker.wanted.target ticket.facts) (referral_realm ticket.rep.ticket.sname) rule none
    (and_parts _ _ h.service).1

-- ---- what a ticket-granting service answered, to a request that showed this ticket

-- the request that a leg awaits the reply of showed this ticket to the KDC of this realm, drawn so
pub record HasShown (leg : TgsLeg) (to : List ℕ) (last : Grant) (at : Draw) : Type 0 where
  pub suite : leg.suite ≡ last.suite
  pub key : leg.key ≡ last.key
  pub question : leg.question ≡ question_of last.rep at
  pub realm : leg.kdc.realm ≡ to

module _ (seeker : Seeker) (rule : has_rule seeker.asker.rules fresh_replies ≡ true) (arrival : Arrival) (leg : TgsLeg) (to : List ℕ) (last : Grant) (at : Draw) (before : HasShown leg to last at)
    (shown : Grant) (taken : TgsTaken seeker.asker.rules seeker.wanted.target leg.question arrival.draw.moment leg.kdc leg.suite leg.key arrival.reply shown) where
  checked : AnswersTgsReq seeker.wanted.target leg.kdc.realm leg.question arrival.draw.moment shown.rep shown.facts (Ok tt)
  checked = subst (λ (b : Bool). AskedFor b (AnswersTgsReq seeker.wanted.target leg.kdc.realm leg.question arrival.draw.moment shown.rep shown.facts) (Ok tt)) rule taken.fresh

  pub answers : AnswersShown seeker.wanted.target to last at arrival.draw.moment shown
  answers =
      next_answers seeker.wanted.target to last at arrival.draw.moment shown
      (subst (λ (r : List ℕ). AnswersTgsReq seeker.wanted.target r (question_of last.rep at) arrival.draw.moment shown.rep shown.facts (Ok tt)) before.realm
      (subst (λ (q : TgsQuestion). AnswersTgsReq seeker.wanted.target leg.kdc.realm q arrival.draw.moment shown.rep shown.facts (Ok tt)) before.question checked))

  opened : BringsNext seeker.asker.rules last.suite last.key taken.rep (Ok (key_of shown))
  opened =
      subst (λ (s : CipherSuite). BringsNext seeker.asker.rules s last.key taken.rep (Ok (key_of shown))) before.suite
      (subst (λ (k : List ℕ). BringsNext seeker.asker.rules leg.suite k taken.rep (Ok (key_of shown))) before.key taken.opened)

  pub brings : BringsFurtherTicket seeker to last at arrival shown
  brings = record { tgs_rep = taken.rep; granted = record { protocol = leg.kdc.protocol; granted = taken.granted }; opened = opened; brought = taken.brought; answers = answers }

-- ---- one TGS-REP more

module _ (seeker : Seeker) (to : List ℕ) (last : Grant) (at : Draw) (arrival : Arrival) (ticket : Grant) (brings : BringsFurtherTicket seeker to last at arrival ticket) where
  brings_so : (realm : List ℕ) (shown : Grant) (asked : Draw) → realm ≡ to → shown ≡ last → asked ≡ at → BringsFurtherTicket seeker realm shown asked arrival ticket
  brings_so realm shown asked e f g =
      subst (λ (r : List ℕ). BringsFurtherTicket seeker r shown asked arrival ticket) (sym e)
      (subst (λ (t : Grant). BringsFurtherTicket seeker to t asked arrival ticket) (sym f) (subst (λ (d : Draw). BringsFurtherTicket seeker to last d arrival ticket) (sym g) brings))

  pub leads_more : (realm : List ℕ) (shown : Grant) (asked : Draw) (arrivals : List Arrival) → LeadsOn seeker realm shown asked arrivals to last at
      → LeadsOn seeker realm shown asked (arrivals ++ arrival ∷ []) (next_realm ticket) ticket arrival.draw
  leads_more realm shown asked [] h = (ticket, brings_so realm shown asked h.0 h.1 h.2, (refl, refl, refl))
  leads_more realm shown asked (x ∷ arrivals) h = (h.0, h.1, leads_more (next_realm h.0) h.0 x.draw arrivals h.2)

chain_more : (seeker : Seeker) (last : Grant) (at : Draw) (arrival : Arrival) (ticket : Grant) (start : Draw) (arrivals : List Arrival) (chain : IsFreshChain seeker start arrivals last at)
    → BringsFurtherTicket seeker chain.to last at arrival ticket → IsFreshChain seeker start (arrivals ++ arrival ∷ []) ticket arrival.draw
chain_more seeker last at arrival ticket start arrivals chain brings = record {
  before = chain.before;
  first = chain.first;
  rest = chain.rest ++ arrival ∷ [];
  are = ap (λ (a : List Arrival). a ++ arrival ∷ []) chain.are ∙ append_assoc chain.before (chain.first ∷ chain.rest) (arrival ∷ []);
  salt = chain.salt;
  leave = chain.leave;
  ticket = chain.ticket;
  begins = chain.begins;
  to = next_realm ticket;
  leads = leads_more seeker chain.to last at arrival ticket brings chain.ticket.rep.crealm chain.ticket chain.first.draw chain.rest chain.leads;
}

-- ---- the run

-- after the start there is no reply
pub begins_fresh : (seeker : Seeker) (start : Draw) (request : NetworkRequest) (phase : InitPhase) → Starts (Seeks seeker) New start (Ok (Asks request phase)) → CameFresh seeker start [] phase
begins_fresh seeker start request phase h =
    let first = asked_first InAsExchange seeker.asker (body_of seeker start) (Asks request phase) h in
    subst (λ (p : InitPhase). CameFresh seeker start [] p) (sym (same_turn _ request phase _ first.is)) (refl, refl)

module _ (seeker : Seeker) (start : Draw) (rule : has_rule seeker.asker.rules fresh_replies ≡ true) (arrivals : List Arrival) (arrival : Arrival) where
  abbrev now : List Arrival
  now = arrivals ++ arrival ∷ []

  abbrev AsksTgs : Grant → Result (Turn InitPhase InitDone) Cause → Type 0
  AsksTgs grant answer = AsksFirstTgs seeker grant arrival.draw answer

  abbrev Taken : AsPhase → Turn InitPhase InitDone → Type 0
  Taken phase turn = TakesReplyWithin InAsExchange AsksTgs seeker.asker phase arrival.reply arrival.draw (Ok turn)

  -- a ticket was taken, and the ticket-granting service of the client's realm was asked
  asked_on : (before : List Arrival) (salt : List ℕ) (protocol : NetworkProtocol) (body : KdcReqBody) (request : NetworkRequest) (next : InitPhase) → arrivals ≡ before → body ≡ body_of seeker start
      → LeaveSalt seeker (replies_in before) salt → WentOn AsksTgs seeker.asker protocol body arrival.draw.moment salt arrival.reply (Asks request next) → CameFresh seeker start now next
  unfolding AsksFirstTgs
  asked_on before salt protocol body request next are own leave on =
      let begun = passed _ _ _ on.rest in
      let checked : AnswersAsReq body arrival.draw.moment on.grant.rep on.grant.facts (Ok tt) =
      subst (λ (b : Bool). AskedFor b (AnswersAsReq body arrival.draw.moment on.grant.rep on.grant.facts) (Ok tt)) rule on.taken.fresh in
      let answers : AnswersAsReq (body_of seeker start) arrival.draw.moment on.grant.rep on.grant.facts (Ok tt) =
      subst (λ (b : KdcReqBody). AnswersAsReq b arrival.draw.moment on.grant.rep on.grant.facts (Ok tt)) own checked in
      subst (λ (p : InitPhase). CameFresh seeker start now p) (sym (same_turn _ request next _ (gave _ _ begun.rest_held)))
      (record {
        last = on.grant;
        at = arrival.draw;
        chain = record {
          before = before;
          first = arrival;
          rest = [];
          are = ap (λ (a : List Arrival). a ++ arrival ∷ []) are;
          salt = salt;
          leave = leave;
          ticket = on.grant;
          begins = record {
            as_rep = on.taken.rep;
            granted = record { protocol = protocol; granted = on.taken.granted };
            opened = on.taken.opened;
            brought = on.taken.brought;
            answers = first_answers seeker start arrival.draw.moment on.grant answers;
          };
          to = on.grant.rep.crealm;
          leads = (refl, refl, refl);
        };
        suite = refl;
        key = refl;
        question = refl;
        realm = asked_realm seeker.asker seeker.wanted on.grant on.grant.rep.crealm on.grant.rep.crealm arrival.draw begun.found (first_tickets seeker.tgt) begun.first_held;
      })

  -- the error, or an AS-REP at once
  second : (kdc : Kdc) (body : KdcReqBody) (request : NetworkRequest) (next : InitPhase) → arrivals ≡ [] → body ≡ body_of seeker start → Taken (AwaitsError kdc body) (Asks request next)
      → CameFresh seeker start now next
  second kdc body request next none own h = go (error_taken InAsExchange AsksTgs seeker.asker arrival.reply arrival.draw (Asks request next) kdc body h)
    where
      go : AskedSecond {O = InitDone} InAsExchange seeker.asker kdc body arrival.reply (Asks request next) ⊎ WentOnEarly AsksTgs seeker.asker kdc body arrival.draw.moment arrival.reply (Asks request next)
          → CameFresh seeker start now next
      go (inl second) =
          subst (λ (p : InitPhase). CameFresh seeker start now p) (sym (same_turn _ request next _ second.is))
          (record {
            error = arrival;
            are = ap (λ (a : List Arrival). a ++ arrival ∷ []) none;
            names = record { protocol = kdc.protocol; named = second.names };
            body = second.same ∙ own;
          })
      go (inr went) = asked_on [] (default_salt seeker.asker.credentials) kdc.protocol body request next none own (went.allowed, refl) went.on

  -- the AS-REP
  first : (sealed : SealedTime) (request : NetworkRequest) (next : InitPhase) → CameAgain seeker start arrivals sealed → Taken (AwaitsAsRep sealed) (Asks request next) → CameFresh seeker start now next
  first sealed request next came h =
      asked_on (came.error ∷ []) sealed.salt sealed.kdc.protocol sealed.body request next came.are came.body came.names
      (as_rep_taken InAsExchange AsksTgs seeker.asker arrival.reply arrival.draw (Asks request next) sealed h)

  -- neither ends the run
  goes_on_asking : (protocol : NetworkProtocol) (body : KdcReqBody) (salt : List ℕ) (done : InitDone) → WentOn AsksTgs seeker.asker protocol body arrival.draw.moment salt arrival.reply (Ends done) → ⊥
  unfolding AsksFirstTgs
  goes_on_asking protocol body salt done on = let begun = passed _ _ _ on.rest in let f = gave _ _ begun.rest_held in absurd cc

  no_end : (phase : AsPhase) (done : InitDone) → Taken phase (Ends done) → ⊥
  no_end (AwaitsError kdc body) done h = go (error_taken InAsExchange AsksTgs seeker.asker arrival.reply arrival.draw (Ends done) kdc body h)
    where
      go : AskedSecond {O = InitDone} InAsExchange seeker.asker kdc body arrival.reply (Ends done) ⊎ WentOnEarly AsksTgs seeker.asker kdc body arrival.draw.moment arrival.reply (Ends done) → ⊥
      go (inl second) = let f = second.is in absurd cc
      go (inr went) = goes_on_asking kdc.protocol body (default_salt seeker.asker.credentials) done went.on
  no_end (AwaitsAsRep sealed) done h =
      goes_on_asking sealed.kdc.protocol sealed.body sealed.salt done (as_rep_taken InAsExchange AsksTgs seeker.asker arrival.reply arrival.draw (Ends done) sealed h)

  module _ (leg : TgsLeg) (shown : Grant) (came : CameWithTicket seeker start arrivals leg)
      (taken : TgsTaken seeker.asker.rules seeker.wanted.target leg.question arrival.draw.moment leg.kdc leg.suite leg.key arrival.reply shown) where
    has_shown : HasShown leg came.chain.to came.last came.at
    has_shown = record { suite = came.suite; key = came.key; question = came.question; realm = came.realm }

    one_more : IsFreshChain seeker start now shown arrival.draw
    one_more = chain_more seeker came.last came.at arrival shown start arrivals came.chain (brings seeker rule arrival leg came.chain.to came.last came.at has_shown shown taken)

    abbrev referral : Option (List ℕ)
    referral = referral_of seeker.asker.rules seeker.wanted.target shown.facts shown.rep

    -- the realm that the ticket refers to is asked next
    refers_to : (realm : List ℕ) → referral ≡ Some realm → next_realm shown ≡ realm
    refers_to realm e =
        ap (λ (r : Option (List ℕ)). unwrap_or r [])
        (referred_to (has_rule seeker.asker.rules fresh_replies && tgs_replies.is_for_target seeker.wanted.target shown.facts) (referral_realm shown.rep.ticket.sname) realm e)

    refers : (request : NetworkRequest) (next : InitPhase) (realm : List ℕ) → referral ≡ Some realm → Refers seeker leg realm shown arrival.draw (Ok (Asks request next)) → CameFresh seeker start now next
    unfolding Refers one_more referral_realm chain_more
    refers request next realm e h =
        let begun = passed _ _ _ h in
        subst (λ (p : InitPhase). CameFresh seeker start now p) (sym (same_turn _ request next _ (gave _ _ begun.rest_held)))
        (record {
          last = shown;
          at = arrival.draw;
          chain = one_more;
          suite = refl;
          key = refl;
          question = refl;
          realm = followed_realm seeker.asker seeker.wanted shown leg.home realm arrival.draw begun.found leg.hops leg.kdc.realm begun.first_held ∙ sym (refers_to realm e);
        })

    arrives : (done : InitDone) → referral ≡ None → Arrives seeker leg shown arrival.draw (Ok (Ends done)) → IsFreshSession seeker start now done
    unfolding Arrives ShowsTicket shown_to
    arrives done e h =
        let made = passed _ _ _ h in
        let key = passed _ _ _ made.first_held in
        let is : done ≡ made.found = same_end _ _ (gave _ _ made.rest_held) in
        let end_is : made.found ≡ shown_to seeker.errand shown.suite shown.key shown.rep leg.home arrival.draw = gave _ _ key.rest_held in
        record {
          last = shown;
          at = arrival.draw;
          chain = one_more;
          is_service = e;
          for_target = ends_at_target seeker came.chain.to came.last came.at arrival.draw.moment shown rule (answers seeker rule arrival leg came.chain.to came.last came.at has_shown shown taken) e;
          session_key = ap (λ (d : InitDone). d.change.encryption_params.session_key) (is ∙ end_is);
          asked_at = ap (λ (d : InitDone). d.change.asked_at) (is ∙ end_is);
          state = ap (λ (d : InitDone). d.change.state) (is ∙ end_is);
        }

    goes : (to : Option (List ℕ)) (request : NetworkRequest) (next : InitPhase) → referral ≡ to → GoesTo to seeker leg shown arrival.draw (Ok (Asks request next)) → CameFresh seeker start now next
    unfolding Arrives
    goes None request next e h = let made = passed _ _ _ h in let f = gave _ _ made.rest_held in absurd cc
    goes (Some realm) request next e h = refers request next realm e h

    ends_at : (to : Option (List ℕ)) (done : InitDone) → referral ≡ to → GoesTo to seeker leg shown arrival.draw (Ok (Ends done))
        → IsFreshSession seeker start now done
    unfolding Refers
    ends_at None done e h = arrives done e h
    ends_at (Some realm) done e h = let begun = passed _ _ _ h in let f = gave _ _ begun.rest_held in absurd cc

  abbrev TakenNext : TgsLeg → Grant → Type 0
  TakenNext leg shown = TgsTaken seeker.asker.rules seeker.wanted.target leg.question arrival.draw.moment leg.kdc leg.suite leg.key arrival.reply shown

  next_goes : (leg : TgsLeg) (request : NetworkRequest) (next : InitPhase) → CameWithTicket seeker start arrivals leg → TakesNext seeker leg arrival.reply arrival.draw (Ok (Asks request next))
      → CameFresh seeker start now next
  unfolding TakesNext
  next_goes leg request next came h =
      let shown = passed _ _ _ h in
      let taken : TakenNext leg shown.found =
      taken_tgs seeker.asker.rules seeker.wanted.target leg.question arrival.draw.moment leg.kdc leg.suite leg.key arrival.reply shown.found shown.first_held in
      goes leg shown.found came taken _ request next refl shown.rest_held

  next_ends : (leg : TgsLeg) (done : InitDone) → CameWithTicket seeker start arrivals leg → TakesNext seeker leg arrival.reply arrival.draw (Ok (Ends done)) → IsFreshSession seeker start now done
  unfolding TakesNext
  next_ends leg done came h =
      let shown = passed _ _ _ h in
      let taken : TakenNext leg shown.found =
      taken_tgs seeker.asker.rules seeker.wanted.target leg.question arrival.draw.moment leg.kdc leg.suite leg.key arrival.reply shown.found shown.first_held in
      ends_at leg shown.found came taken _ done refl shown.rest_held

  pub goes_on_fresh : (phase : InitPhase) (request : NetworkRequest) (next : InitPhase) → CameFresh seeker start arrivals phase
      → Next (Seeks seeker) phase arrival.reply arrival.draw (Ok (Asks request next)) → CameFresh seeker start now next
  goes_on_fresh New request next came h = absurd h
  goes_on_fresh (InAsExchange (AwaitsError kdc body)) request next came h = second kdc body request next came.0 came.1 h
  goes_on_fresh (InAsExchange (AwaitsAsRep sealed)) request next came h = first sealed request next came h
  goes_on_fresh (AwaitsTgsRep leg) request next came h = next_goes leg request next came h
  goes_on_fresh Over request next came h = absurd h

  pub ends_fresh : (phase : InitPhase) (done : InitDone) → CameFresh seeker start arrivals phase → Next (Seeks seeker) phase arrival.reply arrival.draw (Ok (Ends done)) → IsFreshSession seeker start now done
  ends_fresh New done came h = absurd h
  ends_fresh (InAsExchange phase) done came h = absurd (no_end phase done h)
  ends_fresh (AwaitsTgsRep leg) done came h = next_ends leg done came h
  ends_fresh Over done came h = absurd h

-- ---- the service's answer

-- an authenticator was shown, and the answer has its time
record IsTimed (shown_at : Option ℕ) (part : EncApRepPart) : Type 0 where
  moment : ℕ
  is : shown_at ≡ Some moment
  time : is_time_of part moment ≡ true

timed : (shown_at : Option ℕ) (part : EncApRepPart) → answers_at shown_at part ≡ true → IsTimed shown_at part
timed None part e = absurd cc
timed (Some moment) part e = record { moment = moment; is = refl; time = e }

pub takes_answer : (initiator : Initiator) (token : List ℕ) (draw : Draw) (done : InitDone) → has_rule initiator.rules answers_its_authenticator ≡ true → TakesApRep initiator token draw (Ok done)
    → AnswersAuthenticator initiator token
unfolding TakesApRep ReadsApRep
takes_answer initiator token draw done rule h =
    let message = passed _ _ _ h in
    let short = passed _ _ _ message.first_held in
    let read : Finds Shape (IsApRep (is_bare initiator.flags) token) (Ok message.found) = short.rest_held in
    let key = passed _ _ _ message.rest_held in
    let part = passed _ _ _ key.rest_held in
    let time = passed _ _ _ part.rest_held in
    let answers : answers_at initiator.asked_at part.found ≡ true =
    subst (λ (b : Bool). (not b || answers_at initiator.asked_at part.found) ≡ true) rule (held ReplyTime _ time.found time.first_held) in
    let at = timed initiator.asked_at part.found answers in
    record {
      message = message.found;
      is_message = read.is;
      key = key.found;
      has_key = took _ _ _ key.first_held;
      part = part.found;
      opened = part.first_held;
      moment = at.moment;
      asked_at = at.is;
      time = at.time;
    }

pub hears_answer : (initiator : Initiator) (token : List ℕ) (draw : Draw) (done : InitDone) → has_rule initiator.rules answers_its_authenticator ≡ true
    → HearsAnswer initiator token draw (Ok (Ends done)) → AnswersAuthenticator initiator token
unfolding HearsAnswer
hears_answer initiator token draw done rule h = let made = passed _ _ _ h in takes_answer initiator token draw made.found rule made.first_held
