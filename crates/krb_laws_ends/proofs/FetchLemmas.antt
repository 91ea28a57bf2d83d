-- Over honest KDCs the run of an initiator comes to its end, by induction on the referrals.
use Rattle.std.proofs.Common.{◌≡◌, ℕ, ◌+◌, ◌<◌, ◌≤◌, Bool, true, false, not, List, [], ◌∷◌, length, Option, Some, None, refl, sym, subst, ap, ◌∙◌, arith, Result, Ok}
use Rattle.std.specs.Prelude.{◌==◌, ◌&&◌, nat_lt, option_map, if◌then◌else◌}
use Rattle.std.proofs.lemmas.Bool.{lt-ltb, eq-eqb}
use Rattle.krb_crypto.specs.Suite.{key_size, suite_number, suite_of_etype}
use Rattle.krb_crypto.specs.declared.suite.CipherSuite.{CipherSuite}
use Rattle.krb_crypto.specs.declared.suite.CipherSuite.TheVariants.{Aes128CtsHmacSha196, Aes256CtsHmacSha196}
use Rattle.krb_messages.specs.declared.enc_ticket_part.EncTicketPart.{EncTicketPart}
use Rattle.krb_messages.specs.declared.ticket.Ticket.{Ticket}
use Rattle.krb_exchange.specs.declared.kdc_rep.AsRep.{AsRep}
use Rattle.krb_exchange.specs.declared.kdc_rep.KdcRep.{KdcRep}
use Rattle.krb_exchange.specs.declared.kdc_rep.TgsRep.{TgsRep}
use Rattle.krb_exchange.specs.declared.kdc_req.KdcReqBody.{KdcReqBody}
use Rattle.krb_exchange.specs.declared.result.KrbResult.TheVariants.{Ok as Reply, Err as Refusal}
use Rattle.krb_exchange.specs.Layouts.{as_rep_layout, tgs_rep_layout, enc_tgs_rep_part_layout}
use Rattle.krb_der.specs.Layout.{Layout}
use Rattle.krb_context.specs.declared.context.Kerberos.{Kerberos}
use Rattle.krb_context.specs.declared.server.ServerProperties.{ServerProperties}
use Rattle.krb_context.specs.Contexts.{with_key, settled}
use Rattle.sspi_core.proofs.Chain.{takes_some, holds_true, follows, gives}
use Rattle.sspi_core.specs.Checks.{Gives}
use Rattle.sspi_core.specs.declared.cause.Cause.{Cause}
use Rattle.sspi_core.specs.declared.cause.Cause.TheVariants.{EarlyAsRep, KeyLength, Hops, SameRealm}
use Rattle.sspi_core.specs.declared.results.SecurityStatus.TheVariants.{Ok as Complete, ContinueNeeded}
use Rattle.krb_context.specs.declared.state.KerberosState.TheVariants.{ApExchange, Final}
use Rattle.sspi_core.specs.declared.draw.Draw.{Draw}
use Rattle.sspi_core.specs.declared.protocol.NetworkProtocol.{NetworkProtocol}
use Rattle.sspi_generator.specs.declared.network.NetworkRequest.{NetworkRequest}
use Rattle.krb_as.specs.declared.kdc.Kdc.{Kdc}
use Rattle.krb_as.specs.Kdcs.{FindsKdc}
use Rattle.krb_as.specs.Replies.{Replies}
use Rattle.krb_replies.specs.Unseals.{session_key}
use Rattle.krb_exchange.specs.declared.enc_kdc_rep_part.EncKdcRepPart.{EncKdcRepPart}
use Rattle.krb_replies.specs.Fresh.{AskedFor}
use Rattle.krb_replies.specs.Keys.{HasSuite, TakesKey, BringsFirst, BringsNext, facts_in}
use Rattle.krb_replies.specs.declared.facts.ReplyFacts.{ReplyFacts}
use Rattle.krb_replies.specs.declared.keys.ReplyKey.{ReplyKey}
use Rattle.krb_as.specs.declared.done.InitDone.{InitDone}
use Rattle.krb_as.specs.declared.as_phase.AsPhase.{AsPhase}
use Rattle.krb_as.specs.declared.as_phase.AsPhase.TheVariants.{AwaitsError, AwaitsAsRep}
use Rattle.krb_as.specs.declared.key.SealedTime.{SealedTime}
use Rattle.krb_as.specs.declared.turn.Turn.{Turn}
use Rattle.krb_tgs.specs.declared.tgs.Begun.{Begun}
use Rattle.krb_as.specs.declared.turn.Turn.TheVariants.{Asks, Ends}
use Rattle.krb_as.specs.Askers.{client_key, default_salt, sized_key}
use Rattle.krb_as.specs.Asked.{first_request, second_request}
use Rattle.krb_as.specs.AsPhases.{sealed_time, BeginsExchange, SealsTime, AsksSecond, BringsGrant, TakesAsRep, BeginsWithin, TakesReplyWithin}
use Rattle.krb_as.specs.Replied.{LeavesSalt, TakesEarly, TakesFirst, Grants}
use Rattle.krb_as.specs.ReplyKeys.{TakesReplyKey}
use Rattle.krb_as.specs.Fresh.{AnswersAsReq, TakesFreshKey}
use Rattle.krb_as.specs.declared.key.Grant.{Grant}
use Rattle.krb_tgs.specs.TgsAsked.{is_same_realm, tgs_request, AsksTgs, Follows}
use Rattle.krb_tgs.specs.declared.fresh.TgsQuestion.{TgsQuestion}
use Rattle.krb_tgs.specs.Fresh.{question_of, AnswersTgsReq}
use Rattle.krb_tgs.specs.Taken.{BringsFresh, TakesTgsRep}
use Rattle.krb_context.specs.Rules.{has_rule, no_preauthentication, suite_of_each_key, one_way_is_settled, fresh_replies}
use Rattle.krb_ap.specs.Initiators.{settled_number, is_one_way}
use Rattle.krb_ap.specs.Shown.{message, shown_state, shown_number, shown_status, shown as shown_to, ShowsTicket}
use Rattle.krb_initiator.specs.declared.seeker.Seeker.{Seeker}
use Rattle.krb_initiator.specs.declared.seeker.TgsLeg.{TgsLeg}
use Rattle.krb_initiator.specs.declared.seeker.InitPhase.{InitPhase}
use Rattle.krb_initiator.specs.declared.seeker.InitPhase.TheVariants.{InAsExchange, AwaitsTgsRep}
use Rattle.krb_initiator.specs.InitSteps.{body_of, AsksFirstTgs, Refers as RefersOn, Arrives, GoesTo, TakesNext}
use Rattle.krb_initiator.specs.Tgts.{first_tickets}
use Rattle.krb_laws_ends.specs.Answers.{IsDraw, KeepsTime, Offered}
use Rattle.krb_laws_ends.specs.Fetches.{Leads, Fetches, AsksMutual, EndsWithOffer}
use Rattle.krb_laws_ends.specs.HonestKdc.{Brings, AnswersError, GrantsFirst, Known, GrantsNext, HasKdc, Refers, Serves, Step, Answers, steps_behind, LeadsToKey, AreHonest, AreHonestKdcs}
use Rattle.krb_laws_ends.specs.Offers.{Offer, octets_of, offered_token}
use Rattle.krb_laws_ends.proofs.GrantLemmas.{IsGranted, granted_in, offer_of, honest}
use Rattle.krb_laws_ends.proofs.HonestLemmas.{opens_carried, opens_first}
use Rattle.krb_laws_ends.proofs.TimeLemmas.{keeps_own_time}

-- ---- replies

grants : {A : Type 0} (layout : Layout A) (protocol : NetworkProtocol) (reply : List ℕ) (value : A) → Brings layout protocol reply value → Grants protocol layout (Ok reply) (Ok value)
unfolding Grants Replies
grants layout protocol reply value brings =
    follows _ _ (Reply value) _ (follows _ _ brings.message _ brings.unwraps (record { is = brings.read })) (record { is = refl })

replies : {A : Type 0} (layout : Layout A) (protocol : NetworkProtocol) (reply : List ℕ) (value : A) → Brings layout protocol reply value
    → Replies protocol layout (Ok reply) (Ok (Reply value))
unfolding Replies
replies layout protocol reply value brings = follows _ _ brings.message _ brings.unwraps (record { is = brings.read })

-- a check that a rule asks for, and that is passed where it does
asked_for : (asks : Bool) (check : Result (Unit {0}) Cause → Type 0) → (asks ≡ true → check (Ok tt)) → AskedFor asks check (Ok tt)
asked_for true check h = h refl
asked_for false check h = gives tt

module _ (seeker : Seeker) (suite : CipherSuite) where
  -- the error
  errs : (protocol : NetworkProtocol) (reply : List ℕ) (timed : CipherSuite) (salt : List ℕ) (error : AnswersError seeker.asker protocol reply timed salt)
      → Replies protocol as_rep_layout (Ok reply) (Ok (Refusal error.error))
  unfolding Replies
  errs protocol reply timed salt error = follows _ _ error.brings.message _ error.brings.unwraps (record { is = error.brings.read })

  leaves : (protocol : NetworkProtocol) (reply : List ℕ) (timed : CipherSuite) (salt : List ℕ) (error : AnswersError seeker.asker protocol reply timed salt)
      → LeavesSalt (default_salt seeker.asker.credentials) error.error (Ok salt)
  unfolding LeavesSalt
  leaves protocol reply timed salt error = follows _ _ error.named _ error.names (record { is = ap Ok error.salt_is })

  -- what a reply of the AS exchange leads to
  abbrev pub Taken : AsPhase → Step → Turn InitPhase InitDone → Type 0
  Taken phase step turn = TakesReplyWithin InAsExchange (λ grant. AsksFirstTgs seeker grant step.draw) seeker.asker phase (Ok step.reply) step.draw (Ok turn)

  pub asks_second : (kdc : Kdc) (body : KdcReqBody) (step : Step) (timed : CipherSuite) (salt key : List ℕ) → AnswersError seeker.asker kdc.protocol step.reply timed salt
      → sized_key seeker.asker timed salt ≡ Some key
      → Taken (AwaitsError kdc body) step (Asks (second_request timed key step.draw kdc body) (InAsExchange (AwaitsAsRep (sealed_time kdc body timed salt key))))
  unfolding TakesReplyWithin TakesFirst AsksSecond SealsTime
  asks_second kdc body step timed salt key error has =
      let request : NetworkRequest = second_request timed key step.draw kdc body in
      let sealed : SealedTime = sealed_time kdc body timed salt key in
      follows _ _ (Asks request (AwaitsAsRep sealed)) _
      (follows _ _ (Refusal error.error) _ (errs kdc.protocol step.reply timed salt error)
      (follows _ _ (request, sealed) _
      (follows _ _ salt _ (leaves kdc.protocol step.reply timed salt error)
      (follows _ _ timed _ error.leaves
      (follows _ _ key _ (takes_some KeyLength (sized_key seeker.asker timed salt) key has) (gives _))))
      (gives _)))
      (gives _)

  -- the AS-REP
  numbered : suite_of_etype (suite_number suite) ≡ suite
  numbered = go suite
    where
      go : (s : CipherSuite) → suite_of_etype (suite_number s) ≡ s
      go Aes128CtsHmacSha196 = refl
      go Aes256CtsHmacSha196 = refl

  -- a key in the suite, and the facts that are encrypted next to it
  abbrev taken_key : List ℕ → EncKdcRepPart → ReplyKey
  taken_key key part = record { suite = suite; key = key; facts = facts_in part }

  takes_in_suite : (part : EncKdcRepPart) (octets : List ℕ) → HasSuite (has_rule seeker.asker.rules suite_of_each_key) suite part.key.key_type (Ok suite) → part.key.key_value ≡ octets
      → TakesKey seeker.asker.rules suite part (Ok (taken_key octets part))
  unfolding TakesKey
  takes_in_suite part octets same is = follows _ _ suite _ same (record { is = ap (λ (o : List ℕ). Ok (taken_key o part)) (sym is) })

  module _ (body : KdcReqBody) (moment : ℕ) (protocol : NetworkProtocol) (used reply : List ℕ) (rep : AsRep) (key : List ℕ) (first : GrantsFirst seeker.asker body moment suite protocol used reply rep key) where
    abbrev first_key : ReplyKey
    first_key = taken_key key first.part.0

    brings_key : BringsFirst seeker.asker.rules suite (client_key suite first.salt seeker.asker.credentials) rep (Ok first_key)
    unfolding BringsFirst
    brings_key =
        follows _ _ first.part _
        (opens_first seeker.asker.rules suite (client_key suite first.salt seeker.asker.credentials) rep.0.enc_part.cipher first.part first.key_fits first.carries)
        (takes_in_suite first.part.0 key first.same_suite first.key_is)

    takes_key : TakesReplyKey seeker.asker.rules seeker.asker.credentials used rep (Ok first_key)
    unfolding TakesReplyKey
    takes_key =
        let brought : BringsFirst seeker.asker.rules (suite_of_etype (suite_number suite)) (client_key (suite_of_etype (suite_number suite)) first.salt seeker.asker.credentials) rep
        (Ok first_key) =
        subst (λ (s : CipherSuite). BringsFirst seeker.asker.rules s (client_key s first.salt seeker.asker.credentials) rep (Ok first_key)) (sym numbered) brings_key in
        follows _ _ (suite_number suite, first.salt) _ first.tells brought

    -- and it answers the request, where that is a rule
    takes_fresh_key : TakesFreshKey seeker.asker body moment used rep (Ok first_key)
    unfolding TakesFreshKey
    takes_fresh_key =
        follows _ _ first_key _ takes_key
        (follows _ _ tt _ (asked_for (has_rule seeker.asker.rules fresh_replies) (AnswersAsReq body moment rep.0 (facts_in first.part.0)) first.answers) (gives first_key))

  -- what was shown, and the leg that awaits the next reply
  abbrev pub shown : List ℕ → ReplyFacts → KdcRep → Grant
  shown key facts rep = record { suite = suite; key = key; facts = facts; rep = rep }

  abbrev pub leg : Known → List ℕ → ℕ → TgsLeg
  leg known home hops = record { kdc = known.kdc; suite = suite; key = known.key; home = home; question = known.question; hops = hops }

  -- the question of the leg is that of the request
  awaits_reply : (request : NetworkRequest) (known : Known) (home : List ℕ) (hops : ℕ) (question : TgsQuestion) → known.question ≡ question
      → Gives {A = Turn InitPhase InitDone} {E = Cause} (Asks request (AwaitsTgsRep (record { kdc = known.kdc; suite = suite; key = known.key; home = home; question = question; hops = hops })))
      (Ok (Asks request (AwaitsTgsRep (leg known home hops))))
  awaits_reply request known home hops question asked =
      record { is = ap (λ (q : TgsQuestion). Ok (Asks request (AwaitsTgsRep (record { kdc = known.kdc; suite = suite; key = known.key; home = home; question = q; hops = hops })))) asked }

  takes_as_rep : (sealed : SealedTime) (moment : ℕ) (reply : List ℕ) (rep : AsRep) (key : List ℕ)
      → (first : GrantsFirst seeker.asker sealed.body moment suite sealed.kdc.protocol sealed.salt reply rep key)
      → TakesAsRep seeker.asker sealed moment (Ok reply) (Ok (Ends (shown key (facts_in first.part.0) rep.0)))
  unfolding TakesAsRep BringsGrant
  takes_as_rep sealed moment reply rep key first =
      follows _ _ rep _ (grants as_rep_layout sealed.kdc.protocol reply rep first.brings)
      (follows _ _ (taken_key key first.part.0) _ (takes_fresh_key sealed.body moment sealed.kdc.protocol sealed.salt reply rep key first) (gives _))

  -- a ticket-granting service is asked
  asks_tgs : (key : List ℕ) (facts : ReplyFacts) (rep : KdcRep) (home realm : List ℕ) (kdc : Kdc) (tickets : Option (List Ticket)) (draw : Draw) → length key ≡ key_size suite
      → HasKdc seeker.asker home realm kdc
      → AsksTgs seeker.asker seeker.wanted (shown key facts rep) home realm tickets draw
      (Ok (record { request = tgs_request seeker.wanted (shown key facts rep) tickets draw kdc; kdc = kdc }))
  unfolding AsksTgs
  asks_tgs key facts rep home realm kdc tickets draw fits found =
      follows _ _ tt _ (holds_true KeyLength (length key == key_size suite) (eq-eqb (length key) (key_size suite) fits))
      (follows _ _ kdc _ found (gives _))

  -- the first one
  abbrev first_asked : List ℕ → EncKdcRepPart → AsRep → Kdc → Draw → NetworkRequest
  first_asked key part rep kdc draw = tgs_request seeker.wanted (shown key (facts_in part) rep.0) (first_tickets seeker.tgt) draw kdc

  asks_first : (part : EncKdcRepPart) (rep : AsRep) (known : Known) (draw : Draw) → length known.key ≡ key_size suite → known.question ≡ question_of rep.0 draw
      → HasKdc seeker.asker rep.0.crealm rep.0.crealm known.kdc
      → AsksFirstTgs seeker (shown known.key (facts_in part) rep.0) draw (Ok (Asks (first_asked known.key part rep known.kdc draw) (AwaitsTgsRep (leg known rep.0.crealm 0))))
  unfolding AsksFirstTgs
  asks_first part rep known draw fits asked found =
      let request : NetworkRequest = first_asked known.key part rep known.kdc draw in
      follows _ _ (record { request = request; kdc = known.kdc }) _
      (asks_tgs known.key (facts_in part) rep.0 rep.0.crealm rep.0.crealm known.kdc (first_tickets seeker.tgt) draw fits found)
      (awaits_reply request known rep.0.crealm 0 (question_of rep.0 draw) asked)

  pub takes_first : (sealed : SealedTime) (step : Step) (rep : AsRep) (known : Known)
      → (first : GrantsFirst seeker.asker sealed.body step.draw.moment suite sealed.kdc.protocol sealed.salt step.reply rep known.key)
      → known.question ≡ question_of rep.0 step.draw → HasKdc seeker.asker rep.0.crealm rep.0.crealm known.kdc
      → Taken (AwaitsAsRep sealed) step (Asks (first_asked known.key first.part.0 rep known.kdc step.draw) (AwaitsTgsRep (leg known rep.0.crealm 0)))
  unfolding TakesReplyWithin
  takes_first sealed step rep known first asked found =
      follows _ _ (Ends (shown known.key (facts_in first.part.0) rep.0)) _ (takes_as_rep sealed step.draw.moment step.reply rep known.key first)
      (asks_first first.part.0 rep known step.draw first.fits asked found)

  -- an AS-REP in the place of the error
  pub takes_early : (kdc : Kdc) (body : KdcReqBody) (step : Step) (used : List ℕ) (rep : AsRep) (known : Known) → has_rule seeker.asker.rules no_preauthentication ≡ true
      → used ≡ default_salt seeker.asker.credentials → (first : GrantsFirst seeker.asker body step.draw.moment suite kdc.protocol used step.reply rep known.key)
      → known.question ≡ question_of rep.0 step.draw → HasKdc seeker.asker rep.0.crealm rep.0.crealm known.kdc
      → Taken (AwaitsError kdc body) step (Asks (first_asked known.key first.part.0 rep known.kdc step.draw) (AwaitsTgsRep (leg known rep.0.crealm 0)))
  unfolding TakesReplyWithin TakesFirst TakesEarly BringsGrant
  takes_early kdc body step used rep known allowed own first asked found =
      let key : ReplyKey = taken_key known.key first.part.0 in
      follows _ _ (Ends (shown known.key (facts_in first.part.0) rep.0)) _
      (follows _ _ (Reply rep) _ (replies as_rep_layout kdc.protocol step.reply rep first.brings)
      (follows _ _ tt _ (holds_true EarlyAsRep (has_rule seeker.asker.rules no_preauthentication) allowed)
      (follows _ _ key _
      (subst (λ (s : List ℕ). TakesFreshKey seeker.asker body step.draw.moment s rep (Ok key)) own
      (takes_fresh_key body step.draw.moment kdc.protocol used step.reply rep known.key first))
      (gives _))))
      (asks_first first.part.0 rep known step.draw first.fits asked found)

  -- ---- TGS-REPs

  abbrev IsNext : Known → Step → TgsRep → List ℕ → Type 0
  IsNext known step rep key = GrantsNext seeker.asker.rules seeker.wanted.target suite known step rep key

  pub hands_on : (known : Known) (step : Step) (rep : TgsRep) (key : List ℕ) → length known.key ≡ key_size suite
      → (next : IsNext known step rep key) → BringsNext seeker.asker.rules suite known.key rep (Ok (taken_key key next.part.0))
  unfolding BringsNext
  hands_on known step rep key fits next =
      follows _ _ next.part _ (opens_carried enc_tgs_rep_part_layout session_key suite known.key 8 rep.0.enc_part.cipher next.part fits next.carries)
      (takes_in_suite next.part.0 key next.same_suite next.key_is)

  -- and it answers the request, where that is a rule
  hands_on_fresh : (known : Known) (step : Step) (rep : TgsRep) (key : List ℕ) → length known.key ≡ key_size suite → (next : IsNext known step rep key)
      → BringsFresh seeker.asker.rules seeker.wanted.target known.kdc.realm known.question step.draw.moment suite known.key rep (Ok (taken_key key next.part.0))
  unfolding BringsFresh
  hands_on_fresh known step rep key fits next =
      follows _ _ (taken_key key next.part.0) _ (hands_on known step rep key fits next)
      (follows _ _ tt _
      (asked_for (has_rule seeker.asker.rules fresh_replies) (AnswersTgsReq seeker.wanted.target known.kdc.realm known.question step.draw.moment rep.0 (facts_in next.part.0)) next.answers)
      (gives (taken_key key next.part.0)))

  takes_tgs_rep : (known : Known) (step : Step) (rep : TgsRep) (key : List ℕ) → length known.key ≡ key_size suite → (next : IsNext known step rep key)
      → TakesTgsRep seeker.asker.rules seeker.wanted.target known.question step.draw.moment known.kdc suite known.key (Ok step.reply)
      (Ok (shown key (facts_in next.part.0) rep.0))
  unfolding TakesTgsRep
  takes_tgs_rep known step rep key fits next =
      follows _ _ rep _ (grants tgs_rep_layout known.kdc.protocol step.reply rep next.brings)
      (follows _ _ (taken_key key next.part.0) _ (hands_on_fresh known step rep key fits next) (gives (shown key (facts_in next.part.0) rep.0)))

  -- a referral is followed
  abbrev next_asked : List ℕ → EncKdcRepPart → TgsRep → Kdc → Draw → NetworkRequest
  next_asked key part rep kdc draw = tgs_request seeker.wanted (shown key (facts_in part) rep.0) None draw kdc

  pub refers : (known : Known) (home : List ℕ) (hops : ℕ) (step : Step) (next : Known) → length known.key ≡ key_size suite → hops < 9
      → (refers_to : Refers seeker.asker seeker.wanted.target home suite known step next)
      → TakesNext seeker (leg known home hops) (Ok step.reply) step.draw
      (Ok (Asks (next_asked next.key refers_to.grants.part.0 refers_to.rep next.kdc step.draw) (AwaitsTgsRep (leg next home (hops + 1)))))
  unfolding TakesNext RefersOn Follows
  refers known home hops step next fits few to =
      let part : EncKdcRepPart = to.grants.part.0 in
      let request : NetworkRequest = next_asked next.key part to.rep next.kdc step.draw in
      let begun : Begun = record { request = request; kdc = next.kdc } in
      let grant : Grant = shown next.key (facts_in part) to.rep.0 in
      follows _ _ grant _ (takes_tgs_rep known step to.rep next.key fits to.grants)
      (subst (λ (r : Option (List ℕ)). GoesTo r seeker (leg known home hops) grant step.draw (Ok (Asks request (AwaitsTgsRep (leg next home (hops + 1)))))) (sym to.named)
      (follows _ _ begun _
      (follows _ _ tt _ (holds_true Hops (nat_lt hops 9) (lt-ltb hops 9 few))
      (follows _ _ tt _ (holds_true SameRealm (not (is_same_realm known.kdc.realm next.kdc.realm)) (ap not to.other))
      (asks_tgs next.key (facts_in part) to.rep.0 home next.kdc.realm next.kdc None step.draw to.grants.fits to.found)))
      (awaits_reply request next home (hops + 1) (question_of to.rep.0 step.draw) to.asked)))

  -- the service's ticket is shown to the service
  pub arrives : (service_key : List ℕ) (known : Known) (home : List ℕ) (hops : ℕ) (step : Step) (rep : TgsRep) (part : EncTicketPart) → length known.key ≡ key_size suite
      → Serves seeker.asker.rules seeker.wanted.target suite service_key known step rep part
      → TakesNext seeker (leg known home hops) (Ok step.reply) step.draw (Ok (Ends (shown_to seeker.errand suite part.key.key_value rep.0 home step.draw)))
  unfolding TakesNext Arrives ShowsTicket
  arrives service_key known home hops step rep part fits serves =
      let key : List ℕ = part.key.key_value in
      let done : InitDone = shown_to seeker.errand suite key rep.0 home step.draw in
      let grant : Grant = shown key (facts_in serves.grants.part.0) rep.0 in
      follows _ _ grant _ (takes_tgs_rep known step rep key fits serves.grants)
      (subst (λ (r : Option (List ℕ)). GoesTo r seeker (leg known home hops) grant step.draw (Ok (Ends done))) (sym serves.refers_no_more)
      (follows _ _ done _
      (follows _ _ tt _ (holds_true KeyLength (length key == key_size suite) (eq-eqb (length key) (key_size suite) serves.grants.fits)) (gives done))
      (gives _)))

  -- any number of referrals up to nine
  leads : (service_key : List ℕ) (known : Known) (home : List ℕ) (hops : ℕ) (steps : List Step) (last : Step) (rep : TgsRep) (part : EncTicketPart) → length known.key ≡ key_size suite
      → hops + length steps ≤ 9 → AreHonest seeker home suite service_key known steps last rep part
      → Leads seeker (AwaitsTgsRep (leg known home hops)) steps last (shown_to seeker.errand suite part.key.key_value rep.0 home last.draw)
  leads service_key known home hops [] last rep part fits few serves = arrives service_key known home hops last rep part fits serves
  leads service_key known home hops (step ∷ steps) last rep part fits few honest =
      let next : Known = honest.0 in
      let to = honest.1 in (
        next_asked next.key to.grants.part.0 to.rep next.kdc step.draw,
        AwaitsTgsRep (leg next home (hops + 1)),
        refers known home hops step next fits (omega (arith, few)) to,
        leads service_key next home (hops + 1) steps last rep part to.grants.fits (omega (arith, few)) honest.2,
      )

  -- what is served, whatever referrals are before it
  pub served : (home service_key : List ℕ) (known : Known) (steps : List Step) (last : Step) (rep : TgsRep) (part : EncTicketPart) → AreHonest seeker home suite service_key known steps last rep part
      → (before : Known) × Serves seeker.asker.rules seeker.wanted.target suite service_key before last rep part
  served home service_key known [] last rep part serves = (known, serves)
  served home service_key known (step ∷ steps) last rep part honest = served home service_key honest.0 steps last rep part honest.2

  -- the start
  pub starts : (home : Kdc) (draw : Draw) → FindsKdc seeker.asker.kdc_url seeker.asker.env seeker.asker.realm (Ok home)
      → BeginsWithin {O = InitDone} InAsExchange seeker.asker (body_of seeker draw) (Ok (Asks (first_request home (body_of seeker draw)) (InAsExchange (AwaitsError home (body_of seeker draw)))))
  unfolding BeginsWithin BeginsExchange
  starts home draw found =
      follows _ _ (first_request home (body_of seeker draw), AwaitsError home (body_of seeker draw)) _ (follows _ _ home _ found (gives _)) (gives _)

  module _ (service_key : List ℕ) (draw : Draw) (answers : Answers) (rep : TgsRep) (part : EncTicketPart) (kdcs : AreHonestKdcs seeker suite service_key draw answers rep part) where
    abbrev done : InitDone
    done = shown_to seeker.errand suite part.key.key_value rep.0 kdcs.as_rep.0.crealm answers.last.draw

    -- what comes after the AS-REP
    abbrev asked_tgs : NetworkRequest
    asked_tgs = first_asked kdcs.known.key kdcs.grants.part.0 kdcs.as_rep kdcs.known.kdc answers.first.draw

    abbrev awaits_tgs : InitPhase
    awaits_tgs = AwaitsTgsRep (leg kdcs.known kdcs.as_rep.0.crealm 0)

    behind : Leads seeker awaits_tgs answers.referrals answers.last done
    behind = leads service_key kdcs.known kdcs.as_rep.0.crealm 0 answers.referrals answers.last rep part kdcs.grants.fits (omega (arith, kdcs.few)) kdcs.honest

    -- the replies lead to the end, with an error or without
    led : (error : Option Step) → LeadsToKey seeker.asker kdcs.first_kdc.protocol error kdcs.salt
        → Leads seeker (InAsExchange (AwaitsError kdcs.first_kdc (body_of seeker draw))) (steps_behind error (answers.first ∷ answers.referrals)) answers.last done
    led (Some step) asks = (
      second_request asks.suite asks.key step.draw kdcs.first_kdc (body_of seeker draw),
      InAsExchange (AwaitsAsRep (sealed_time kdcs.first_kdc (body_of seeker draw) asks.suite kdcs.salt asks.key)),
      asks_second kdcs.first_kdc (body_of seeker draw) step asks.suite kdcs.salt asks.key asks.error asks.has_key,
      (
        asked_tgs,
        awaits_tgs,
        takes_first (sealed_time kdcs.first_kdc (body_of seeker draw) asks.suite kdcs.salt asks.key) answers.first kdcs.as_rep kdcs.known kdcs.grants kdcs.asked kdcs.found,
        behind,
      ),
    )
    led None none = (
      asked_tgs,
      awaits_tgs,
      takes_early kdcs.first_kdc (body_of seeker draw) answers.first kdcs.salt kdcs.as_rep kdcs.known none.0 none.1 kdcs.grants kdcs.asked kdcs.found,
      behind,
    )

    fetches : Fetches seeker draw answers done
    fetches = record {
      request = first_request kdcs.first_kdc (body_of seeker draw);
      phase = InAsExchange (AwaitsError kdcs.first_kdc (body_of seeker draw));
      starts = starts kdcs.first_kdc draw kdcs.first_found;
      leads = led answers.error kdcs.leads;
    }

    module _ (asks : AsksMutual seeker) (is : IsDraw answers.last.draw) where
      granted : IsGranted rep.0
      granted =
          let brings = (served kdcs.as_rep.0.crealm service_key kdcs.known answers.referrals answers.last rep part kdcs.honest).1.grants.brings in
          granted_in rep brings.message brings.read brings.octets brings.short

      -- mutual authentication is asked for, so the answer is awaited
      and_false : (b : Bool) → (b && false) ≡ false
      and_false true = refl
      and_false false = refl

      awaited : is_one_way seeker.errand.initiator ≡ false
      awaited =
          ap (λ (b : Bool). has_rule seeker.errand.initiator.rules one_way_is_settled && not b) asks.asked
          ∙ and_false (has_rule seeker.errand.initiator.rules one_way_is_settled)

      awaits : shown_state seeker.errand.initiator ≡ ApExchange
      awaits = ap (λ (b : Bool). if b then Final else ApExchange) awaited

      continues : shown_status seeker.errand.initiator ≡ ContinueNeeded
      continues = ap (λ (b : Bool). if b then Complete else ContinueNeeded) awaited

      keeps : shown_number seeker.errand.initiator ≡ seeker.errand.initiator.number
      keeps = ap (λ (b : Bool). if b then settled_number seeker.errand.initiator else seeker.errand.initiator.number) awaited

      abbrev offer : Offer
      offer = offer_of seeker.errand suite rep.0 answers.last.draw granted is part

      token_is : done.token ≡ offered_token offer
      unfolding shown_to message octets_of
      token_is = refl

      keeps_moment : KeepsTime done.change.asked_at offer.authenticator
      unfolding shown_to
      keeps_moment = keeps_own_time offer.authenticator answers.last.draw.moment refl refl

      offered : (context : Kerberos) → context.server ≡ None → Offered (settled context done.change) offer
      unfolding shown_to
      offered context role = record {
        role = ap (λ (s : Option ServerProperties). option_map (with_key None) s) role;
        state = awaits;
        suite = refl;
        key = refl;
        time = λ _. keeps_moment;
      }

      pub ends_with_offer : (context : Kerberos) → context.server ≡ None → EndsWithOffer context seeker service_key suite draw answers rep part
      unfolding shown_to
      ends_with_offer context role =
          let serves = (served kdcs.as_rep.0.crealm service_key kdcs.known answers.referrals answers.last rep part kdcs.honest).1 in record {
            done = done;
            fetches = fetches;
            status = continues;
            offer = offer;
            token = token_is;
            suite_is = refl;
            ticket = refl;
            part_is = refl;
            style = refl;
            filler_stays = refl;
            number_stays = keeps;
            cksum = refl;
            time = keeps_moment;
            honest =
                honest seeker.errand suite rep.0 answers.last.draw granted is part service_key serves.ticket serves.same_realm serves.same_name asks.asked asks.named asks.short;
            offered = offered context role;
          }
