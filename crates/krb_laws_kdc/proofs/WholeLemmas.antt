-- A run over a network of KDCs that lead to a service fetches its ticket.
use Rattle.std.proofs.Common.{◌≡◌, ℕ, ◌+◌, ◌≤◌, ◌^◌, Bool, true, false, List, ◌∷◌, length, take, Option, Some, None, refl, sym, subst, ap, ◌∙◌, arith, Result, Ok, Err, if◌then◌else◌}
use Rattle.std.specs.Prelude.{unwrap_or, ◌==◌}
use Rattle.std.proofs.lemmas.List.{length-take}
use Rattle.krb_der.specs.Layout.{spelling}
use Rattle.url.specs.Parts.{Parts}
use Rattle.krb_aes.specs.Octets.{IsOctets}
use Rattle.krb_crypto.proofs.CtsInjective.{IsOctets-take}
use Rattle.krb_crypto.specs.Suite.{key_size}
use Rattle.krb_crypto.specs.Password.{password_key}
use Rattle.krb_crypto.specs.declared.suite.CipherSuite.{CipherSuite}
use Rattle.krb_messages.specs.Frame.{with_length}
use Rattle.krb_messages.specs.Layouts.{principal_name_layout}
use Rattle.krb_messages.specs.declared.principal_name.PrincipalName.{PrincipalName}
use Rattle.krb_messages.specs.declared.ticket.Ticket.{Ticket}
use Rattle.krb_exchange.specs.Layouts.{as_req_layout, as_rep_layout}
use Rattle.krb_exchange.specs.declared.kdc_rep.AsRep.{AsRep}
use Rattle.krb_exchange.specs.declared.kdc_req.KdcReqBody.{KdcReqBody}
use Rattle.krb_context.specs.declared.context.Kerberos.{Kerberos}
use Rattle.sspi_core.specs.declared.cause.Cause.TheVariants.{Memory}
use Rattle.sspi_core.specs.declared.draw.Draw.{Draw}
use Rattle.sspi_core.specs.declared.error.Error.{Error}
use Rattle.sspi_core.specs.declared.identity.CredentialsBuffers.{CredentialsBuffers}
use Rattle.sspi_core.specs.declared.identity.CredentialsBuffers.TheVariants.{AuthIdentity as Password, Keytab as Key}
use Rattle.sspi_core.specs.declared.protocol.NetworkProtocol.{NetworkProtocol}
use Rattle.sspi_core.specs.declared.protocol.NetworkProtocol.TheVariants.{Tcp}
use Rattle.sspi_core.specs.Usernames.{UserName}
use Rattle.sspi_generator.specs.declared.network.NetFault.{NetFault}
use Rattle.sspi_generator.specs.declared.network.NetFault.TheVariants.{OutOfMemory}
use Rattle.sspi_generator.specs.declared.network.NetworkRequest.{NetworkRequest}
use Rattle.sspi_generator.specs.declared.task.GeneratorState.{GeneratorState}
use Rattle.sspi_generator.specs.declared.task.GeneratorState.TheVariants.{Suspended}
use Rattle.sspi_generator.specs.Runs.{Resolves}
use Rattle.krb_as.specs.declared.kdc.Kdc.{Kdc as Address}
use Rattle.krb_as.specs.Kdcs.{FindsKdc}
use Rattle.krb_as.specs.Requests.{carried}
use Rattle.krb_requests.specs.Bodies.{user_components, as_req_with}
use Rattle.krb_requests.specs.PaDatas.{plain_pa_datas, timed_pa_datas}
use Rattle.krb_as.specs.declared.done.InitDone.{InitDone}
use Rattle.krb_as.specs.declared.turn.Turn.TheVariants.{Asks}
use Rattle.krb_as.specs.Asked.{first_request, second_request}
use Rattle.krb_as.specs.AsPhases.{sealed_time}
use Rattle.krb_as.specs.declared.asker.Asker.{Asker}
use Rattle.krb_as.specs.Askers.{suite_for, asker_suite, time_suite, client_key, default_salt, key_for}
use Rattle.krb_context.specs.Rules.{has_rule, suite_of_each_key, fresh_replies}
use Rattle.krb_as.specs.declared.as_phase.AsPhase.TheVariants.{AwaitsError, AwaitsAsRep}
use Rattle.krb_as.specs.declared.key.SealedTime.{SealedTime}
use Rattle.krb_as.specs.Turns.{IsWant}
use Rattle.krb_replies.specs.Fresh.{grace}
use Rattle.krb_replies.specs.Keys.{facts_in}
use Rattle.krb_tgs.specs.Fresh.{question_of}
use Rattle.krb_tgs.specs.TgsAsked.{url_for, tgs_request}
use Rattle.krb_initiator.specs.declared.init_run.InitRun.{InitRun}
use Rattle.krb_initiator.specs.declared.seeker.Seeker.{Seeker}
use Rattle.krb_initiator.specs.declared.seeker.Initiation.TheVariants.{Seeks}
use Rattle.krb_initiator.specs.declared.seeker.InitPhase.{InitPhase}
use Rattle.krb_initiator.specs.declared.seeker.InitPhase.TheVariants.{New, InAsExchange, AwaitsTgsRep}
use Rattle.krb_initiator.specs.InitRuns.{Starts, Next, StartsAt, ResumesAt}
use Rattle.krb_initiator.specs.InitSteps.{body_of}
use Rattle.krb_initiator.specs.Tgts.{first_tickets}
use Rattle.krb_admission.specs.Clients.{client_of}
use Rattle.krb_laws_ends.specs.Fetches.{Fetches, EndsWithOffer}
use Rattle.krb_laws_ends.specs.HonestKdc.{AnswersError, GrantsFirst, Known, HasKdc, Step, Answers as AllAnswers, AreHonestKdcs}
use Rattle.krb_laws_ends.proofs.FetchLemmas.{leg, starts, asks_second, takes_first, ends_with_offer}
use Rattle.krb_laws_ends.proofs.OneEndLemmas.{one_end}
use Rattle.krb_laws_ends.proofs.HonestLemmas.{same_octets}
use Rattle.krb_kdc.specs.declared.grant.Grant.{Grant}
use Rattle.krb_kdc.specs.declared.kdc.Kdc.{Kdc}
use Rattle.krb_kdc.specs.Answering.{Answers}
use Rattle.krb_context.specs.Drawn.{drawn_key}
use Rattle.krb_kdc.specs.Grants.{ticket, as_rep}
use Rattle.krb_kdc.specs.Nets.{Net, AnswersWith}
use Rattle.krb_kdc.specs.Refusals.{hint, refusal}
use Rattle.krb_kdc.specs.TgsChecks.{ticket_key}
use Rattle.krb_kdc.proofs.Found.{principal_found, key_of}
use Rattle.krb_laws_kdc.specs.Asking.{AsksFirst}
use Rattle.krb_laws_kdc.specs.Fetching.{IsTimely, Held, shown_of, name_of, first_granted, held_first, Draws, of_client, of_kdcs, CanFetch, HasFetched, SendsTo}
use Rattle.krb_laws_kdc.specs.Granting.{AreAscii, IsSoundGrant, IsFirstAnswer}
use Rattle.krb_laws_kdc.proofs.AskLemmas.{same_request}
use Rattle.krb_laws_kdc.proofs.AsLemmas.{name_short, asked_for_key, granted_ticket}
use Rattle.krb_laws_kdc.proofs.ErrorLemmas.{answers_error}
use Rattle.krb_laws_kdc.proofs.FirstLemmas.{asks_first}
use Rattle.krb_laws_kdc.proofs.FirstGrantLemmas.{nonce_size, first_sound, first_held}
use Rattle.krb_laws_kdc.proofs.FreshLemmas.{first_answer}
use Rattle.krb_laws_kdc.proofs.HeldLemmas.{IsHeld, near}
use Rattle.krb_laws_kdc.proofs.NameLemmas.{salt_names}
use Rattle.krb_laws_kdc.proofs.RepLemmas.{grants_first}
use Rattle.krb_laws_kdc.proofs.TicketLemmas.{own_key}
use Rattle.krb_laws_kdc.proofs.TurnLemmas.{IsTurned, Runs, started, resumed, no_memory, as_wants, IsAnswered, answered}
use Rattle.krb_laws_kdc.proofs.WalkLemmas.{Comes, walk}

some_is : {A : Type 0} (x y : A) → Some x ≡ Some y → x ≡ y
some_is x y e = cc

if_some : (b : Bool) (x y : List ℕ) → (if b then Some x else None) ≡ Some y → x ≡ y
if_some true x y e = cc
if_some false x y e = absurd cc

-- the key that credentials have, where they have one
key_is_its : (suite : CipherSuite) (salt key : List ℕ) (credentials : CredentialsBuffers) → key_for suite salt credentials ≡ Some key → client_key suite salt credentials ≡ key
key_is_its suite salt key (Password identity) e = some_is (password_key suite identity.password salt) key e
key_is_its suite salt key (Key identity) e = if_some (length identity.key == key_size suite) identity.key key e

-- the time is sealed in the suite of the credentials where the KDC names that
named_so : (suite : CipherSuite) (credentials : CredentialsBuffers) → suite_for (suite_for suite credentials) credentials ≡ suite_for suite credentials
named_so suite (Password identity) = refl
named_so suite (Key identity) = refl

either : (b : Bool) (x y : CipherSuite) → x ≡ y → (if b then x else y) ≡ y
either true x y e = e
either false x y e = refl

time_told : (asker : Asker) → time_suite asker (Some (asker_suite asker)) ≡ asker_suite asker
time_told asker = either (has_rule asker.rules suite_of_each_key) _ _ (named_so asker.suite asker.credentials)

ended_so : (out : Result InitDone Error) (one other : InitDone) → out ≡ Ok one → one ≡ other → out ≡ Ok other
ended_so out one other is same = is ∙ ap Ok same

own_url : (own : Option Parts) (realm : List ℕ) → url_for own realm realm ≡ own
own_url own realm = ap (λ (b : Bool). if b then own else None) (same_octets realm)

-- the second reply, and where it leads
record IsGiven (seeker : Seeker) (suite : CipherSuite) (sealed : SealedTime) (message : List ℕ) (rep : AsRep) (known : Known) (own : Draw)
    (request : NetworkRequest) (state : GeneratorState NetworkRequest (Result InitDone Error)) (next : InitRun) : Type 0 where
  grants : GrantsFirst seeker.asker sealed.body own.moment suite sealed.kdc.protocol sealed.salt message rep known.key
  leads : Next (Seeks seeker) (InAsExchange (AwaitsAsRep sealed)) (Ok message) own (Ok (Asks request (AwaitsTgsRep (leg seeker suite known rep.0.crealm 0))))
  turned : IsTurned seeker (Ok (Asks request (AwaitsTgsRep (leg seeker suite known rep.0.crealm 0)))) state next

module _ (seeker : Seeker) (pairs : List (List ℕ × Kdc)) (draws : Draws) (service_key : List ℕ) (user : UserName) (c : CanFetch seeker pairs draws service_key user)
    (out : Result InitDone Error) (run' : InitRun) (net' : Net) (wanting : IsWant out → ⊥) where
  abbrev suite : CipherSuite
  suite = asker_suite seeker.asker

  abbrev kdc : Kdc
  kdc = c.kdc

  abbrev address : Address
  address = c.stands.address

  abbrev body : KdcReqBody
  body = body_of seeker draws.start

  abbrev salt : List ℕ
  salt = unwrap_or c.has.client.salt (default_salt seeker.asker.credentials)

  abbrev sealed : SealedTime
  sealed = sealed_time address body suite salt c.has.client.key

  abbrev plain_message : List ℕ
  plain_message = spelling as_req_layout (as_req_with plain_pa_datas body)

  abbrev timed_message : CipherSuite → List ℕ
  timed_message s = spelling as_req_layout (as_req_with (timed_pa_datas s c.has.client.key draws.second.moment (take 16 draws.second.random)) body)

  abbrev error_message : CipherSuite → List ℕ
  error_message s = with_length (refusal kdc.realm draws.error 25 (Some (hint s c.has.client.salt)))

  abbrev grant : Grant
  grant = first_granted seeker kdc c.has.client draws.start draws.first

  abbrev rep_in : CipherSuite → AsRep
  rep_in s = as_rep s kdc.realm draws.first body.nonce c.has.client.key grant

  abbrev rep_message : CipherSuite → List ℕ
  rep_message s = with_length (spelling as_rep_layout (rep_in s))

  abbrev held : Held
  held = held_first seeker kdc c.has.client draws.start draws.first

  abbrev known : Known
  known = record { key = drawn_key suite draws.first; kdc = address; question = question_of held.rep draws.third }

  starts_timely : IsTimely c.drawn.start c.span draws.start
  starts_timely = c.drawn.by_client.0

  second_timely : IsTimely c.drawn.start c.span draws.second
  second_timely = c.drawn.by_client.1.0

  error_timely : IsTimely c.drawn.start c.span draws.error
  error_timely = c.drawn.by_kdcs.0

  first_timely : IsTimely c.drawn.start c.span draws.first
  first_timely = c.drawn.by_kdcs.1.0

  third_timely : IsTimely c.drawn.start c.span draws.third
  third_timely = c.drawn.by_client.1.1.0

  asks : AsksFirst kdc (name_of seeker) c.has.client draws.start.moment body
  asks =
      asks_first kdc seeker.client c.has.client seeker.wanted.flags.0 draws.start c.has.realm_is c.has.known starts_timely.is

  salted : AreAscii kdc.realm c.has.client.salt
  salted = salt_names kdc (user_components seeker.client.name) c.has.client c.has.known

  client_short : length (spelling principal_name_layout (name_of seeker)) ≤ 2 ^ 24
  client_short =
      name_short kdc (name_of seeker) c.has.client draws.start.moment body asks c.stands.fair draws.error
      (near c.drawn.start c.span kdc.skew draws.start draws.error starts_timely error_timely c.stands.least) c.sizes.request

  error_replied : (reply : List ℕ) → Answers kdc (with_length plain_message) draws.error reply → reply ≡ error_message suite
  error_replied reply answers =
      asked_for_key kdc (name_of seeker) c.has.client draws.start.moment body asks c.stands.fair draws.error (near c.drawn.start c.span kdc.skew draws.start draws.error starts_timely error_timely c.stands.least)
      reply c.sizes.request answers
      ∙ ap error_message c.stands.suite_is

  error_is : AnswersError seeker.asker address.protocol (error_message suite) suite salt
  error_is =
      subst (λ (p : NetworkProtocol). AnswersError seeker.asker p (error_message suite) suite salt) (sym c.stands.tcp)
      (subst (λ (s : CipherSuite). AnswersError seeker.asker Tcp (error_message suite) s salt) (time_told seeker.asker)
      (answers_error suite kdc.realm draws.error c.has.client.salt salted error_timely.is.moment seeker.asker c.sizes.error))

  client_fits : length c.has.client.key ≡ key_size kdc.suite
  client_fits = key_of kdc.suite c.has.client (principal_found kdc.suite (user_components seeker.client.name) kdc.principals c.has.client kdc.principals_fit c.has.known)

  rep_replied : (s : CipherSuite) → kdc.suite ≡ s → (reply : List ℕ) → length (timed_message s) + 4 ≤ 2 ^ 24 → Answers kdc (with_length (timed_message s)) draws.first reply → reply ≡ rep_message s
  rep_replied s e =
      subst (λ (s : CipherSuite). (reply : List ℕ) → length (timed_message s) + 4 ≤ 2 ^ 24 → Answers kdc (with_length (timed_message s)) draws.first reply → reply ≡ rep_message s) e
      (λ reply short answers.
      granted_ticket kdc (name_of seeker) c.has.client draws.start.moment body asks c.stands.fair draws.first
      (near c.drawn.start c.span kdc.skew draws.start draws.first starts_timely first_timely c.stands.least) draws.second.moment (take 16 draws.second.random)
      (near c.drawn.start c.span kdc.skew draws.second draws.first second_timely first_timely c.stands.least) second_timely.is.moment
      (omega (arith, length-take 16 draws.second.random, second_timely.is.size)) (IsOctets-take 16 draws.second.random second_timely.is.octets) reply client_fits short answers)

  -- ---- the first ticket

  sound : IsSoundGrant kdc.realm body.nonce grant
  sound = first_sound seeker draws user kdc c.has c.stands.suite_is c.drawn.start c.span starts_timely first_timely client_short

  held_then : IsHeld suite c.drawn.start held
  held_then = first_held seeker draws user kdc c.has c.stands.suite_is c.drawn.start c.span starts_timely first_timely client_short

  first_knows : ticket_key kdc (ticket suite held.realm held.draw held.grant) ≡ Some held.grant.key
  unfolding ticket
  first_knows = own_key kdc (ticket suite held.realm held.draw held.grant) refl refl

  -- what the KDC grants is what was asked, and comes in time
  answers_it : has_rule seeker.asker.rules fresh_replies ≡ true → IsFirstAnswer body draws.third.moment kdc.realm body.nonce draws.first grant
  answers_it fresh =
      first_answer draws.start.moment draws.third.moment draws.first (near c.drawn.start c.span grace draws.start draws.first starts_timely first_timely (c.near fresh))
      (near c.drawn.start c.span grace draws.third draws.first third_timely first_timely (c.near fresh)) kdc (name_of seeker) c.has.client body asks
      (nonce_size seeker draws user kdc c.has c.stands.suite_is c.drawn.start c.span starts_timely first_timely client_short)

  first_grants : IsOctets (rep_message suite)
      → GrantsFirst seeker.asker body draws.third.moment suite address.protocol salt (rep_message suite) (rep_in suite) known.key
  first_grants octets =
      subst (λ (p : NetworkProtocol). GrantsFirst seeker.asker body draws.third.moment suite p salt (rep_message suite) (rep_in suite) known.key) (sym c.stands.tcp)
      (grants_first suite kdc.realm draws.first first_timely.is body.nonce grant sound seeker.asker salt c.has.client.key body draws.third.moment
      (key_is_its suite salt c.has.client.key seeker.asker.credentials c.has.keyed) (client_fits ∙ ap key_size c.stands.suite_is) octets c.sizes.reply answers_it)

  found : HasKdc seeker.asker kdc.realm kdc.realm address
  found =
      subst (λ (u : Option Parts). FindsKdc u seeker.asker.env kdc.realm (Ok address)) (sym (own_url seeker.asker.kdc_url kdc.realm))
      (subst (λ (r : List ℕ). FindsKdc seeker.asker.kdc_url seeker.asker.env r (Ok address)) (sym c.stands.realm_is) c.stands.found)

  -- ---- the run

  abbrev tgs_request_first : NetworkRequest
  tgs_request_first = tgs_request seeker.wanted (shown_of suite held) None draws.third address

  first_payload : (first_request address body).payload ≡ with_length plain_message
  unfolding first_request
  first_payload = ap (λ (p : NetworkProtocol). carried p address.realm plain_message) c.stands.tcp

  second_payload : (second_request suite c.has.client.key draws.second address body).payload ≡ with_length (timed_message suite)
  unfolding second_request
  second_payload = ap (λ (p : NetworkProtocol). carried p address.realm (timed_message suite)) c.stands.tcp

  first_sent : (net after : Net) (reply : Result (List ℕ) NetFault) → net.pairs ≡ pairs → net.draws ≡ of_kdcs draws → SendsTo net (first_request address body) reply after
      → IsAnswered pairs kdc (with_length plain_message) draws.error (draws.first ∷ draws.rest) reply after
  unfolding first_request
  first_sent net after reply p q sends =
      answered pairs c.stands.text kdc (first_request address body) (with_length plain_message) draws.error (draws.first ∷ draws.rest) net after reply c.stands.there first_payload p q sends

  second_sent : (net after : Net) (reply : Result (List ℕ) NetFault) → net.pairs ≡ pairs → net.draws ≡ draws.first ∷ draws.rest
      → SendsTo net (second_request suite c.has.client.key draws.second address body) reply after
      → IsAnswered pairs kdc (with_length (timed_message suite)) draws.first draws.rest reply after
  unfolding second_request
  second_sent net after reply p q sends =
      answered pairs c.stands.text kdc (second_request suite c.has.client.key draws.second address body) (with_length (timed_message suite)) draws.first draws.rest net after reply c.stands.there
      second_payload p q sends

  module _ (run next : InitRun) (state : GeneratorState NetworkRequest (Result InitDone Error)) (after : Net) (owns : List Draw) (is : run.initiation ≡ Seeks seeker) where
    asks_again : Next (Seeks seeker) (InAsExchange (AwaitsError address body)) (Ok (error_message suite)) draws.second
        (Ok (Asks (second_request suite c.has.client.key draws.second address body) (InAsExchange (AwaitsAsRep sealed))))
    asks_again = asks_second seeker suite address body (record { reply = error_message suite; draw = draws.second }) suite salt c.has.client.key error_is c.has.keyed

    first_turn : run.phase ≡ InAsExchange (AwaitsError address body) → (reply : Result (List ℕ) NetFault) → AnswersWith kdc (with_length plain_message) (of_kdcs draws) reply
        → ResumesAt run reply draws.second state next → Runs seeker out run' net' wanting state next after owns
        → IsTurned seeker (Ok (Asks (second_request suite c.has.client.key draws.second address body) (InAsExchange (AwaitsAsRep sealed)))) state next
    first_turn phase (Err fault) answers resumes ends =
        absurd (no_memory seeker out run' net' wanting run next fault draws.second state after owns is answers resumes
        (subst (λ (p : InitPhase). Next (Seeks seeker) p (Err OutOfMemory) draws.second (Err Memory)) (sym phase) (as_wants seeker (AwaitsError address body) draws.second)) ends)
    first_turn phase (Ok reply) answers resumes ends =
        resumed seeker out run' net' wanting run next (Ok (error_message suite)) draws.second state _ after owns is
        (subst (λ (r : List ℕ). ResumesAt run (Ok r) draws.second state next) (error_replied reply answers.0) resumes)
        (subst (λ (p : InitPhase). Next (Seeks seeker) p (Ok (error_message suite)) draws.second
        (Ok (Asks (second_request suite c.has.client.key draws.second address body) (InAsExchange (AwaitsAsRep sealed))))) (sym phase) asks_again) ends

    second_turn : run.phase ≡ InAsExchange (AwaitsAsRep sealed) → (reply : Result (List ℕ) NetFault) → AnswersWith kdc (with_length (timed_message suite)) (draws.first ∷ draws.rest) reply
        → ResumesAt run reply draws.third state next → Runs seeker out run' net' wanting state next after owns
        → IsGiven seeker suite sealed (rep_message suite) (rep_in suite) known draws.third tgs_request_first state next
    unfolding as_rep
    second_turn phase (Err fault) answers resumes ends =
        absurd (no_memory seeker out run' net' wanting run next fault draws.third state after owns is answers resumes
        (subst (λ (p : InitPhase). Next (Seeks seeker) p (Err OutOfMemory) draws.third (Err Memory)) (sym phase) (as_wants seeker (AwaitsAsRep sealed) draws.third)) ends)
    second_turn phase (Ok reply) answers resumes ends =
        let reply_is : reply ≡ rep_message suite = rep_replied suite c.stands.suite_is reply c.sizes.again answers.0 in
        let granted : GrantsFirst seeker.asker body draws.third.moment suite address.protocol salt (rep_message suite) (rep_in suite) known.key =
        first_grants (subst IsOctets reply_is answers.1) in
        let step : Step = record { reply = rep_message suite; draw = draws.third } in
        let taken : Next (Seeks seeker) (InAsExchange (AwaitsAsRep sealed)) (Ok (rep_message suite)) draws.third
        (Ok (Asks tgs_request_first (AwaitsTgsRep (leg seeker suite known kdc.realm 0)))) =
        subst (λ (tickets : Option (List Ticket)). Next (Seeks seeker) (InAsExchange (AwaitsAsRep sealed)) (Ok (rep_message suite)) draws.third
        (Ok (Asks (tgs_request seeker.wanted (shown_of suite held) tickets draws.third address) (AwaitsTgsRep (leg seeker suite known kdc.realm 0))))) (ap first_tickets c.asks.without_tgt)
        (subst (λ (q : NetworkRequest). Next (Seeks seeker) (InAsExchange (AwaitsAsRep sealed)) (Ok (rep_message suite)) draws.third
        (Ok (Asks q (AwaitsTgsRep (leg seeker suite known kdc.realm 0)))))
        (same_request seeker.wanted suite known.key (facts_in granted.part.0) (shown_of suite held).facts held.rep (first_tickets seeker.tgt) draws.third address)
        (takes_first seeker suite sealed step (rep_in suite) known granted refl found)) in
        record {
          grants = granted;
          leads = taken;
          turned =
              resumed seeker out run' net' wanting run next (Ok (rep_message suite)) draws.third state _ after owns is
              (subst (λ (r : List ℕ). ResumesAt run (Ok r) draws.third state next) reply_is resumes)
              (subst (λ (p : InitPhase). Next (Seeks seeker) p (Ok (rep_message suite)) draws.third (Ok (Asks tgs_request_first (AwaitsTgsRep (leg seeker suite known kdc.realm 0)))))
              (sym phase) taken) ends;
        }

  pub fetched : (context : Kerberos) → context.server ≡ None → (run : InitRun) (net : Net) → run.initiation ≡ Seeks seeker → run.phase ≡ New → net.pairs ≡ pairs → net.draws ≡ of_kdcs draws
      → Resolves StartsAt ResumesAt SendsTo run net (of_client draws) out run' net' → HasFetched context seeker draws.start service_key user out
  unfolding as_rep
  fetched context role run net is phase p q resolves =
      let began : Starts (Seeks seeker) New draws.start (Ok (Asks (first_request address body) (InAsExchange (AwaitsError address body)))) =
      starts seeker suite address draws.start c.stands.found in
      let start_turn = started seeker out run' net' wanting run resolves.1 draws.start resolves.0 _ net (draws.second ∷ draws.third ∷ draws.owns) is resolves.2
      (subst (λ (p : InitPhase). Starts (Seeks seeker) p draws.start (Ok (Asks (first_request address body) (InAsExchange (AwaitsError address body))))) (sym phase) began) resolves.3 in
      let one : Runs seeker out run' net' wanting (Suspended (first_request address body)) resolves.1 net (draws.second ∷ draws.third ∷ draws.owns) =
      subst (λ (s : GeneratorState NetworkRequest (Result InitDone Error)). Runs seeker out run' net' wanting s resolves.1 net (draws.second ∷ draws.third ∷ draws.owns))
      start_turn.state_is resolves.3 in
      let one_sent = first_sent net one.1 one.0 p q one.4 in
      let one_turn = first_turn resolves.1 one.3 one.2 one.1 (draws.third ∷ draws.owns) start_turn.stays start_turn.phase_is one.0 one_sent.answers one.5 one.6 in
      let two : Runs seeker out run' net' wanting (Suspended (second_request suite c.has.client.key draws.second address body)) one.3 one.1 (draws.third ∷ draws.owns) =
      subst (λ (s : GeneratorState NetworkRequest (Result InitDone Error)). Runs seeker out run' net' wanting s one.3 one.1 (draws.third ∷ draws.owns)) one_turn.state_is one.6 in
      let two_sent = second_sent one.1 two.1 two.0 one_sent.pairs_are one_sent.draws_are two.4 in
      let two_turn = second_turn one.3 two.3 two.2 two.1 draws.owns one_turn.stays one_turn.phase_is two.0 two_sent.answers two.5 two.6 in
      let three : Runs seeker out run' net' wanting (Suspended tgs_request_first) two.3 two.1 draws.owns =
      subst (λ (s : GeneratorState NetworkRequest (Result InitDone Error)). Runs seeker out run' net' wanting s two.3 two.1 draws.owns) two_turn.turned.state_is two.6 in
      let comes : Comes seeker suite kdc.realm service_key out known 0 (length c.kdcs) kdc.realm (name_of seeker) =
      walk seeker pairs suite kdc.realm service_key c.drawn.start c.span c.asks.under_its_own_key c.asks.no_referral c.near out run' net' wanting
      c.kdcs held kdc seeker.asker.kdc_url seeker.asker.realm c.stands draws.third draws.owns draws.rest 0 held_then first_knows c.leads
      third_timely c.drawn.by_client.1.1.1 c.drawn.by_kdcs.1.1 (omega (arith, c.few)) two.3 two.1 two_turn.turned.stays two_turn.turned.phase_is two_sent.pairs_are two_sent.draws_are three in
      let all : AllAnswers = record {
        error = Some (record { reply = error_message suite; draw = draws.second });
        first = record { reply = rep_message suite; draw = draws.third };
        referrals = comes.steps;
        last = comes.last;
      } in
      let honest : AreHonestKdcs seeker suite service_key draws.start all comes.rep comes.part = record {
        first_kdc = address;
        first_found = c.stands.found;
        salt = salt;
        leads = record { suite = suite; error = error_is; key = c.has.client.key; has_key = c.has.keyed };
        as_rep = rep_in suite;
        known = known;
        grants = two_turn.grants;
        asked = refl;
        found = found;
        few = omega (arith, comes.count_is, c.few);
        honest = comes.honest;
      } in
      let end : EndsWithOffer context seeker service_key suite draws.start all comes.rep comes.part =
      ends_with_offer seeker suite service_key draws.start all comes.rep comes.part honest c.asks.asks_mutual comes.last_is context role in
      let fetches : Fetches seeker draws.start all comes.done = record {
        request = first_request address body;
        phase = InAsExchange (AwaitsError address body);
        starts = began;
        leads = (
          second_request suite c.has.client.key draws.second address body,
          InAsExchange (AwaitsAsRep sealed),
          asks_again resolves.1 one.3 one.2 one.1 (draws.third ∷ draws.owns) start_turn.stays,
          (tgs_request_first, AwaitsTgsRep (leg seeker suite known kdc.realm 0), two_turn.leads, comes.leads),
        );
      } in
      record {
        answers = all;
        rep = comes.rep;
        part = comes.part;
        honest = honest;
        valid = comes.valid;
        direct = comes.direct;
        named =
            subst (λ (r : List ℕ). client_of comes.part.cname r ≡ Some user) (sym comes.crealm_is)
            (subst (λ (n : PrincipalName). client_of n kdc.realm ≡ Some user) (sym comes.cname_is) c.has.user_named);
        end = end;
        out_is = ended_so out comes.done end.done comes.out_is (one_end seeker draws.start all comes.done end.done fetches end.fetches);
      }
