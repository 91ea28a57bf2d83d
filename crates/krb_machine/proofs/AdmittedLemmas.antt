-- An event admits its peer exactly if it is admissible.
use Rattle.std.proofs.Common.{◌≡◌, ◌↔◌, ℕ, ◌≤◌, ◌^◌, ◌==◌, nat_le, Bool, true, false, List, [], ◌∷◌, length, Option, Some, None, Result, Ok, Err, refl, sym, ap, ◌∙◌, subst, arith}
use Rattle.std.specs.Prelude.{if◌then◌else◌}
use Rattle.std.specs.Ordering.{nat_cmp}
use Rattle.std.specs.BTreeMap.{is_at}
use Rattle.std.specs.Map.{set_value}
use Rattle.std.proofs.lemmas.Bool.{leb-true, le-leb, eq-eqb}
use Rattle.krb_der.specs.Layout.{Layout}
use Rattle.krb_crypto.specs.Suite.{key_size}
use Rattle.krb_crypto.specs.declared.suite.CipherSuite.{CipherSuite}
use Rattle.krb_crypto.proofs.SealedLemmas.{plain_shorter}
use Rattle.krb_messages.specs.Layouts.{enc_ticket_part_layout, authenticator_layout}
use Rattle.krb_messages.specs.declared.ap_req.ApReq.{ApReq}
use Rattle.krb_messages.specs.declared.authenticator.Authenticator.{Authenticator}
use Rattle.krb_messages.specs.declared.enc_ticket_part.EncTicketPart.{EncTicketPart}
use Rattle.krb_messages.specs.declared.encryption.EncryptedData.{EncryptedData}
use Rattle.krb_conf.specs.declared.env.Env.{Env}
use Rattle.krb_context.specs.ServiceKeys.{service_key}
use Rattle.krb_context.specs.States.{is_waiting}
use Rattle.krb_context.specs.declared.context.Kerberos.{Kerberos}
use Rattle.krb_context.specs.declared.rules.Rules.{Rules}
use Rattle.krb_context.specs.declared.server.ServerProperties.{ServerProperties}
use Rattle.sspi_core.proofs.Chain.{takes_some, holds_true, follows, gives}
use Rattle.krb_exchange.specs.declared.user_to_user.TgtReq.{TgtReq}
use Rattle.krb_replay.specs.Book.{Book, Follows, StandsFor}
use Rattle.krb_replay.specs.History.{History, verdict_of}
use Rattle.krb_replay.specs.Verdicts.{is_admitted}
use Rattle.krb_replay.specs.declared.ask.Verdict.{Verdict}
use Rattle.krb_replay.specs.declared.ask.Verdict.TheVariants as verdicts
use Rattle.krb_replay.specs.declared.ask.Verdict.TheVariants.{Admitted}
use Rattle.krb_replies.specs.Unseals.{suite_of_integer, own_key, Unseals, OpensSealed, OpensData}
use Rattle.krb_admission.specs.Accepts.{asks_dce_style, BeginsAdmission, FinishesAdmission, DecidesAdmission, Asks, refusal}
use Rattle.krb_admission.specs.Admission.{reply_message, token_with, state_behind, status_in, admission_of, answer_for, mutual_admission, one_way_admission}
use Rattle.krb_admission.specs.Allowed.{channel_held, is_validated, is_transit_checked, tells_bindings, is_bound, Allows}
use Rattle.krb_admission.specs.Clients.{is_known_client}
use Rattle.krb_admission.specs.Complete.{is_known_options, is_mutual, has_good_subkey, Completes}
use Rattle.krb_admission.specs.Requests.{is_same_client, OpensTicket, OpensAuthenticator, Requests, ask_of}
use Rattle.krb_admission.specs.Tokens.{IsApReq, ReceivesApReq}
use Rattle.krb_admission.specs.declared.admission.Answer.{Answer}
use Rattle.krb_admission.specs.declared.admission.Admission.{Admission}
use Rattle.krb_admission.specs.declared.request.Request.{Request}
use Rattle.krb_admission.proofs.Begun.{passed, opened, allowed}
use Rattle.krb_admission.proofs.Once.{begins_once}
use Rattle.krb_admission.proofs.Steps.{completed}
use Rattle.krb_server.specs.Whole.{RunsAs, accepted_as, answered_as, AcceptsToken}
use Rattle.krb_server.specs.declared.accept.Accepted.{Accepted}
use Rattle.krb_user_to_user.specs.declared.request.Beginning.{Beginning}
use Rattle.krb_script.specs.declared.item.Event.{Event}
use Rattle.sspi_core.specs.Checks.{Holds, Takes, Passes, Goes, told, ◌>>◌}
use Rattle.sspi_core.specs.declared.error.Place.TheVariants.{Elsewhere}
use Rattle.sspi_core.specs.Usernames.{UserName}
use Rattle.sspi_core.specs.declared.cause.Cause.{Cause}
use Rattle.sspi_core.specs.declared.cause.Cause.TheVariants.{Sequence, NoServiceKey, Etype, Names, NotYet, Transited, Checksum, Bindings, ClientName, ApOptions, SubKey, Shape}
use Rattle.sspi_core.specs.declared.draw.Draw.{Draw}
use Rattle.sspi_core.specs.declared.results.SecurityStatus.TheVariants as statuses
use Rattle.sspi_generator.specs.declared.network.NetFault.{NetFault}
use Rattle.krb_machine.specs.Described.{Remembers, with_gate}
use Rattle.krb_machine.specs.Exchanges.{answer_of}
use Rattle.krb_machine.specs.MessageCalls.{is_call}
use Rattle.krb_machine.specs.Policy.{State, Settles, Behind, TakesPart, StepsOnward, StepsBy, Steps, Runs, reached, heard, ready, awaited, is_initiator, reply_of, server_flags, draw_of}
use Rattle.krb_machine.specs.Reply.{admits_peer}
use Rattle.krb_machine.specs.declared.connection.Connection.{Connection}
use Rattle.krb_machine.specs.declared.reply.Reply.{Reply}
use Rattle.krb_machine.specs.declared.reply.Reply.TheVariants.{Done}
use Rattle.krb_machine.proofs.BookLemmas.{never-forgets}
use Rattle.krb_machine.proofs.CallLemmas.{call-admits_not, token-step}
use Rattle.krb_machine.proofs.ExchangeLemmas.{same_state, settles_admitted, answer-admits_not, turn-admits_not}
use Rattle.krb_machine.proofs.LeftLemmas.{made_admission, judged-other, passed_admitted, passing-done}
use Rattle.krb_machine.specs.Admitted.{IsEncryptionOf, IsGenuine, IsAllowed, IsInOrder, IsAdmissible, user_at, admitted_reply, reply_to, service_behind}

-- ---- checks that passed

taken : {A : Type 0} (cause : Cause) (value : Option A) (a : A) → Takes cause value (Ok a) → value ≡ Some a
taken cause (Some x) a h = let e = h.is in cc
taken cause None a h = let e = h.is in absurd cc

held_true : (cause : Cause) (test : Bool) (u : Unit {0}) → Holds cause test (Ok u) → test ≡ true
held_true cause true u h = refl
held_true cause false u h = let e = h.is in absurd cc

same_ok : {A : Type 0} (x y : A) → ◌≡◌ {A = Result A Cause} (Ok x) (Ok y) → x ≡ y
same_ok x y h = cc

data_suite : {A : Type 0} (layout : Layout A) (key : List ℕ) (usage : ℕ) (part : EncryptedData) (x : CipherSuite × A) → OpensData layout key usage part (Ok x) → suite_of_integer part.etype ≡ Some x.0
unfolding OpensData
data_suite {A} layout key usage part x h =
    let a = passed _ _ _ h in
    let b = passed _ _ _ a.rest in
    let e : x ≡ (a.found, b.found) = same_ok _ _ b.rest.is in
    taken _ _ _ a.held ∙ ap (λ (y : CipherSuite × A). Some y.0) (sym e)

-- data that were decrypted were encrypted under the key
encryption : {A : Type 0} (layout : Layout A) (key : List ℕ) (usage : ℕ) (part : EncryptedData) (x : CipherSuite × A) → OpensData layout key usage part (Ok x) → IsEncryptionOf layout x.0 key usage x.1 part
encryption layout key usage part x h =
    let o = opened layout key usage part x h in
    record { suite_is = data_suite layout key usage part x h; key_fits = o.fits; plain = o.plain; read = o.read; sealed = o.sealed }

-- data that are encrypted under the key are decrypted
opens : {A : Type 0} (layout : Layout A) (suite : CipherSuite) (key : List ℕ) (usage : ℕ) (value : A) (part : EncryptedData) → IsEncryptionOf layout suite key usage value part → OpensData layout key usage part (Ok (suite, value))
unfolding OpensData OpensSealed Unseals
opens layout suite key usage value part is =
    let long : nat_le 28 (length part.cipher) ≡ true = le-leb 28 (length part.cipher) (omega (arith, plain_shorter suite key usage part.cipher is.plain is.sealed)) in
    follows _ _ suite _ (takes_some Etype (suite_of_integer part.etype) suite is.suite_is)
    (follows _ _ value _
    (follows _ _ is.plain _
    (follows _ _ tt _ (holds_true own_key.key_length (length key == key_size suite) (eq-eqb (length key) (key_size suite) is.key_fits))
    (follows _ _ tt _ (holds_true own_key.short (nat_le 28 (length part.cipher)) long) (record { is = is.sealed })))
    (record { is = is.read }))
    (gives (suite, value)))

-- ---- genuine requests

record OpenedTicket (server : ServerProperties) (message : ApReq) (part : EncTicketPart) : Type 0 where
  key : List ℕ
  has_key : service_key server message.ticket.sname.name_string ≡ Some key
  suite : CipherSuite
  ticket : IsEncryptionOf enc_ticket_part_layout suite key 2 part message.ticket.enc_part

opened_ticket : (server : ServerProperties) (message : ApReq) (part : EncTicketPart) → OpensTicket server message (Ok part) → OpenedTicket server message part
unfolding OpensTicket
opened_ticket server message part h =
    let k = passed _ _ _ h in
    let d = passed _ _ _ k.rest in
    let e : part ≡ d.found.1 = same_ok _ _ d.rest.is in
    let P : EncTicketPart → Type 0 = λ p. IsEncryptionOf enc_ticket_part_layout d.found.0 k.found 2 p message.ticket.enc_part in
    record { key = k.found; has_key = taken _ _ _ k.held; suite = d.found.0; ticket = subst P (sym e) (encryption _ _ _ _ _ d.held) }

record OpenedAuthenticator (rules : Rules) (message : ApReq) (part : EncTicketPart) (sealed : CipherSuite × Authenticator) : Type 0 where
  authenticator : IsEncryptionOf authenticator_layout sealed.0 part.key.key_value 11 sealed.1 message.authenticator
  same_client : is_same_client rules part sealed.1 ≡ true

opened_authenticator : (rules : Rules) (message : ApReq) (part : EncTicketPart) (sealed : CipherSuite × Authenticator) → OpensAuthenticator rules message part (Ok sealed) → OpenedAuthenticator rules message part sealed
unfolding OpensAuthenticator
opened_authenticator rules message part sealed h =
    let u = passed _ _ _ h in
    let v = passed _ _ _ u.rest in
    let e : sealed ≡ u.found = same_ok _ _ v.rest.is in
    let P : CipherSuite × Authenticator → Type 0 = λ s. OpenedAuthenticator rules message part s in
    subst P (sym e) (record { authenticator = encryption _ _ _ _ _ u.held; same_client = held_true _ _ _ v.held })

record ReceivedToken (dce : Bool) (token : List ℕ) (message : ApReq) : Type 0 where
  short : length token ≤ 2 ^ 24
  is_ap_req : IsApReq dce token message

received_token : (dce : Bool) (token : List ℕ) (message : ApReq) → ReceivesApReq dce token (Ok message) → ReceivedToken dce token message
unfolding ReceivesApReq
received_token dce token message h =
    let r = passed _ _ _ h in
    record { short = leb-true (length token) 16777216 (held_true _ _ _ r.held); is_ap_req = r.rest.is }

genuine_found : (rules : Rules) (server : ServerProperties) (dce : Bool) (token : List ℕ) (request : Request) → Requests rules server dce token (Ok request) → IsGenuine rules server dce token request
unfolding Requests
genuine_found rules server dce token request h =
    let m = passed _ _ _ h in
    let t = passed _ _ _ m.rest in
    let s = passed _ _ _ t.rest in
    let e = same_ok _ _ s.rest.is in
    let received = received_token dce token m.found m.held in
    let ticket = opened_ticket server m.found t.found t.held in
    let authenticator = opened_authenticator rules m.found t.found s.found s.held in
    let P : Request → Type 0 = λ q. IsGenuine rules server dce token q in
    subst P (sym e) (record {
      short = received.short;
      is_ap_req = received.is_ap_req;
      key = ticket.key;
      has_key = ticket.has_key;
      ticket_suite = ticket.suite;
      ticket = ticket.ticket;
      authenticator = authenticator.authenticator;
      same_client = authenticator.same_client;
    })

genuine_requests : (rules : Rules) (server : ServerProperties) (dce : Bool) (token : List ℕ) (request : Request) → IsGenuine rules server dce token request → Requests rules server dce token (Ok request)
unfolding Requests OpensTicket OpensAuthenticator ReceivesApReq
genuine_requests rules server dce token request g =
    follows _ _ request.message _
    (follows _ _ tt _ (holds_true Shape (nat_le (length token) 16777216) (le-leb (length token) 16777216 g.short)) (record { is = g.is_ap_req }))
    (follows _ _ request.part _
    (follows _ _ g.key _ (takes_some NoServiceKey (service_key server request.message.ticket.sname.name_string) g.key g.has_key)
    (follows _ _ (g.ticket_suite, request.part) _ (opens enc_ticket_part_layout g.ticket_suite g.key 2 request.part request.message.ticket.enc_part g.ticket) (gives request.part)))
    (follows _ _ (request.suite, request.authenticator) _
    (follows _ _ (request.suite, request.authenticator) _
    (opens authenticator_layout request.suite request.part.key.key_value 11 request.authenticator request.message.authenticator g.authenticator)
    (follows _ _ tt _ (holds_true Names (is_same_client rules request.part request.authenticator) g.same_client) (gives (request.suite, request.authenticator))))
    (gives request)))

-- ---- the demands of the rules on a request

allowed_found : (context : Kerberos) (request : Request) (u : Unit {0}) → Allows context request (Ok u) → IsAllowed context request
unfolding Allows
allowed_found context request u h =
    let v = passed _ _ _ h in
    let t = passed _ _ _ v.rest in
    let b = passed _ _ _ t.rest in
    record { validated = held_true _ _ _ v.held; transit = held_true _ _ _ t.held; told = held_true _ _ _ b.held; bound = held_true _ _ _ b.rest }

allows_it : (context : Kerberos) (request : Request) → IsAllowed context request → Allows context request (Ok tt)
unfolding Allows
allows_it context request a =
    follows _ _ tt _ (holds_true NotYet (is_validated context.rules request.part) a.validated)
    (follows _ _ tt _ (holds_true Transited (is_transit_checked context.rules request.part) a.transit)
    (follows _ _ tt _ (holds_true Checksum (tells_bindings (channel_held context) request.authenticator.cksum) a.told)
    (holds_true Bindings (is_bound (channel_held context) request.authenticator.cksum) a.bound)))

-- ---- the state in which a request is accepted

record Waiting (context : Kerberos) (dce : Bool) (token : List ℕ) (request : Request) : Type 0 where
  waits : is_waiting context.state ≡ true
  server : ServerProperties
  has : context.server ≡ Some server
  genuine : IsGenuine context.rules server dce token request
  allowed : IsAllowed context request

waiting_found : (context : Kerberos) (dce : Bool) (token : List ℕ) (request : Request) → BeginsAdmission context dce token (Ok request) → Waiting context dce token request
waiting_found context dce token request h =
    let a = allowed context dce token request h in
    record {
      waits = a.waits;
      server = a.properties;
      has = a.has;
      genuine = genuine_found context.rules a.properties dce token request a.requests;
      allowed = allowed_found context request a.done a.allows;
    }

begins_there : (context : Kerberos) (dce : Bool) (token : List ℕ) (request : Request) → Waiting context dce token request → BeginsAdmission context dce token (Ok request)
unfolding BeginsAdmission
begins_there context dce token request w =
    follows _ _ tt _ (holds_true Sequence (is_waiting context.state) w.waits)
    (follows _ _ w.server _ (takes_some Sequence context.server w.server w.has)
    (follows _ _ request _ (genuine_requests context.rules w.server dce token request w.genuine)
    (follows _ _ tt _ (allows_it context request w.allowed) (gives request))))

-- ---- requests in order

in_order_found : (context : Kerberos) (dce : Bool) (draw : Draw) (request : Request) (admission : Admission) → FinishesAdmission context dce draw request (Ok admission) → IsInOrder context.rules request
unfolding FinishesAdmission Completes
in_order_found context dce draw request admission h =
    let c = passed _ _ _ h in
    let t = passed _ _ _ c.held in
    let o = passed _ _ _ t.rest in
    let s = passed _ _ _ o.rest in
    record { known = held_true _ _ _ t.held; options = held_true _ _ _ o.held; subkey = held_true _ _ _ s.held }

finishes_there : (context : Kerberos) (dce : Bool) (draw : Draw) (request : Request) → IsInOrder context.rules request
    → FinishesAdmission context dce draw request (Ok (admission_of dce context.krb5_user_to_user context.seq_number draw request (user_at context request)))
unfolding FinishesAdmission Completes
finishes_there context dce draw request o =
    follows _ _ (user_at context request) _
    (follows _ _ tt _ (holds_true ClientName (is_known_client context.rules request.authenticator.cname request.authenticator.crealm) o.known)
    (follows _ _ tt _ (holds_true ApOptions (is_known_options request.message.ap_options) o.options)
    (follows _ _ tt _ (holds_true SubKey (has_good_subkey request) o.subkey) (gives (user_at context request)))))
    (gives (admission_of dce context.krb5_user_to_user context.seq_number draw request (user_at context request)))

-- ---- the reply

reply_by : (asked dce user_to_user : Bool) (number : ℕ) (draw : Draw) (request : Request) (client : Option UserName)
    → reply_of (Ok (answer_for (if asked then mutual_admission dce user_to_user number draw request client else one_way_admission number request client)))
    ≡ (if asked then Done (status_in (state_behind dce)) (token_with dce user_to_user (reply_message number draw request)) true else Done statuses.Ok [] true)
unfolding mutual_admission one_way_admission
reply_by true dce user_to_user number draw request client = refl
reply_by false dce user_to_user number draw request client = refl

reply_is : (dce user_to_user : Bool) (number : ℕ) (draw : Draw) (request : Request) (client : Option UserName)
    → reply_of (Ok (answer_for (admission_of dce user_to_user number draw request client))) ≡ admitted_reply dce user_to_user number draw request
reply_is dce user_to_user number draw request client = reply_by (is_mutual request.message.ap_options) dce user_to_user number draw request client

admits_by : (asked dce user_to_user : Bool) (number : ℕ) (draw : Draw) (request : Request)
    → admits_peer (if asked then Done (status_in (state_behind dce)) (token_with dce user_to_user (reply_message number draw request)) true else Done statuses.Ok [] true) ≡ true
admits_by true dce user_to_user number draw request = refl
admits_by false dce user_to_user number draw request = refl

admits_it : (dce user_to_user : Bool) (number : ℕ) (draw : Draw) (request : Request) → admits_peer (admitted_reply dce user_to_user number draw request) ≡ true
admits_it dce user_to_user number draw request = admits_by (is_mutual request.message.ap_options) dce user_to_user number draw request

judged_there : (server : Kerberos) (dce : Bool) (token : List ℕ) (draw : Draw) (request : Request) (admission : Admission) → BeginsAdmission server dce token (Ok request) → FinishesAdmission server dce draw request (Ok admission)
    → DecidesAdmission server dce token draw Admitted (Ok admission)
unfolding DecidesAdmission
judged_there server dce token draw request admission begun finished = follows _ _ request _ begun (follows _ _ tt _ (record { is = refl }) finished)

-- the reply to an admissible event
pub admissible-answered : (skew : ℕ) (state after : State History) (event : Event) (reply : Reply) → Steps (Remembers skew) state event reply after → (a : IsAdmissible skew state event) → reply ≡ reply_to a
admissible-answered skew state after event reply step a =
    let dce = asks_dce_style (server_flags event.flags) in
    let context = a.connection.context in
    let draw = draw_of event in
    let begun = begins_there context dce a.token a.request (record { waits = a.waits; server = a.server; has = a.has; genuine = a.genuine; allowed = a.allowed }) in
    let admission = admission_of dce context.krb5_user_to_user context.seq_number draw a.request (user_at context a.request) in
    passing-done skew state after event reply a.connection a.token a.request admission step a.reaches begun a.verdict (finishes_there context dce draw a.request a.in_order)
    ∙ reply_is dce context.krb5_user_to_user context.seq_number draw a.request (user_at context a.request)

-- the service after an admissible event
pub admissible-made : (skew : ℕ) (state after : State History) (event : Event) (reply : Reply) → Steps (Remembers skew) state event reply after → (a : IsAdmissible skew state event) → after ≡ service_behind a
admissible-made skew state after event reply step a =
    let dce = asks_dce_style (server_flags event.flags) in
    let context = a.connection.context in
    let draw = draw_of event in
    let admission = admission_of dce context.krb5_user_to_user context.seq_number draw a.request (user_at context a.request) in
    let begun = begins_there context dce a.token a.request (record { waits = a.waits; server = a.server; has = a.has; genuine = a.genuine; allowed = a.allowed }) in
    let j = token-step (Remembers skew) state event a.connection a.token reply after a.reaches step in
    let other = judged-other (Remembers skew) state after event reply a.connection a.token a.request j begun in
    let same = (begins_once context dce a.token).same other.accepts.request (Ok a.request) other.accepts.begun begun in
    let A : Result Request Cause → Type 0 = λ r. Asks (Remembers skew) context.rules event.moment state.gate r other.accepts.verdict after.gate in
    let asked = subst A same other.accepts.gate in
    let done = completed (Remembers skew) context dce a.token draw state.gate after.gate other.judged j.server admission other.accepts (asked.0 ∙ a.verdict)
    (judged_there context dce a.token draw a.request admission begun (finishes_there context dce draw a.request a.in_order)) in
    let S : Result Accepted Cause → Type 0 = λ r. Settles draw (record a.connection { context = j.server }) (told Elsewhere r) reply j.next in
    let settles = subst S (other.answer_is ∙ ap answered_as done.0) j.settles in
    let put : Connection → List (ℕ × Connection) = λ next. set_value (is_at (nat_cmp event.connection)) state.connections next in
    same_state after (service_behind a) (j.connections ∙ ap put settles.1 ∙ ap (λ (k : Kerberos). put (record a.connection { context = k })) done.1) j.env asked.1

-- ---- no other event admits its peer

admitted_is : (verdict : Verdict) → is_admitted verdict ≡ true → verdict ≡ Admitted
admitted_is Admitted e = refl
admitted_is verdicts.Skew e = absurd (cc)
admitted_is verdicts.NotYet e = absurd (cc)
admitted_is verdicts.Expired e = absurd (cc)
admitted_is verdicts.Replayed e = absurd (cc)

-- the grounds on which an admission was judged
record Passing (skew moment : ℕ) (h : History) (context : Kerberos) (dce : Bool) (token : List ℕ) : Type 0 where
  request : Request
  waiting : Waiting context dce token request
  verdict : verdict_of skew h (ask_of context.rules request moment) ≡ Admitted
  in_order : IsInOrder context.rules request

judged_passing : (skew : ℕ) (h after : History) (context : Kerberos) (dce : Bool) (token : List ℕ) (draw : Draw) (verdict : Verdict) (request : Result Request Cause) (admission : Admission)
    → BeginsAdmission context dce token request → Asks (Remembers skew) context.rules draw.moment h request verdict after → DecidesAdmission context dce token draw verdict (Ok admission) → Passing skew draw.moment h context dce token
unfolding DecidesAdmission
judged_passing skew h after context dce token draw verdict (Ok request) admission begun asks judged =
    let same : judged.middle ≡ Ok request = (begins_once context dce token).same judged.middle (Ok request) judged.held begun in
    let R : Result Request Cause → Type 0 = λ m. Goes (λ (request : Request). Passes (refusal verdict) >> FinishesAdmission context dce draw request) m (Ok admission) in
    let both : (Passes (refusal verdict) >> FinishesAdmission context dce draw request) (Ok admission) = subst R same judged.rest in
    let rest = passed _ _ _ both in
    record {
      request = request;
      waiting = waiting_found context dce token request begun;
      verdict = sym asks.0 ∙ admitted_is verdict (passed_admitted verdict both.middle _ admission both.held.is both.rest);
      in_order = in_order_found context dce draw request admission rest.rest;
    }
judged_passing skew h after context dce token draw verdict (Err cause) admission begun asks judged =
    let same : judged.middle ≡ Err cause = (begins_once context dce token).same judged.middle (Err cause) judged.held begun in
    let R : Result Request Cause → Type 0 = λ m. Goes (λ (request : Request). Passes (refusal verdict) >> FinishesAdmission context dce draw request) m (Ok admission) in
    let refused : ◌≡◌ {A = Result Admission Cause} (Ok admission) (Err cause) = subst R same judged.rest in
    absurd (cc)

no_run : (beginning : Result Beginning Cause) (answer : Result Accepted Cause) (accepted : Answer) → RunsAs beginning answer → answer ≡ Ok (accepted_as accepted) → ⊥
no_run (Ok beginning) answer accepted runs is = let e = sym runs.1 ∙ is in absurd (cc)
no_run (Err cause) answer accepted runs is = let e = sym runs ∙ is in absurd (cc)

made_passing : (skew : ℕ) (context : Kerberos) (dce : Bool) (token : List ℕ) (env : Env) (draw : Draw) (old : History) (found : Option TgtReq) (answer : Result Accepted Cause) (context' : Kerberos) (new : History)
    → AcceptsToken (Remembers skew) context dce token env draw old found answer context' new → (accepted : Answer) → answer ≡ Ok (accepted_as accepted) → admits_peer (reply_of (Ok accepted)) ≡ true
    → Passing skew draw.moment old context dce token
made_passing skew context dce token env draw old (Some tgt_req) answer context' new made accepted is done = absurd (no_run made.0.beginning answer accepted made.0.runs is)
made_passing skew context dce token env draw old None answer context' new made accepted is done =
    let a = made_admission (Remembers skew) context dce token draw old new answer context' made accepted is done in
    let J : Result Admission Cause → Type 0 = λ o. DecidesAdmission context dce token draw made.accepts.verdict o in
    judged_passing skew old new context dce token draw made.accepts.verdict made.accepts.request a.0 made.accepts.begun made.accepts.gate (subst J a.1 made.accepts.judged)

behind_admissible : (skew : ℕ) (state after : State History) (event : Event) (found : Result (Connection × List ℕ) Cause) (reply : Reply) → reached state.connections event ≡ found
    → Behind (Remembers skew) state event found reply after → admits_peer reply ≡ true → IsAdmissible skew state event
behind_admissible skew state after event (Ok found) reply reaches b done =
    let t = settles_admitted (draw_of event) _ b.answer reply b.next b.settles done in
    let p = made_passing skew found.0.context (asks_dce_style (server_flags event.flags)) found.1 state.env (draw_of event) state.gate b.accepts.tgt_req b.answer b.server after.gate b.accepts.made
    t.accepted t.answer_is (ap admits_peer (sym t.reply_is) ∙ done) in
    record {
      connection = found.0;
      token = found.1;
      reaches = reaches;
      waits = p.waiting.waits;
      server = p.waiting.server;
      has = p.waiting.has;
      request = p.request;
      genuine = p.waiting.genuine;
      allowed = p.waiting.allowed;
      verdict = p.verdict;
      in_order = p.in_order;
    }
behind_admissible skew state after event (Err cause) reply reaches b done =
    let refused : admits_peer (reply_of (Err cause)) ≡ true = ap admits_peer (sym b.0) ∙ done in absurd (cc)

part_admissible : (skew : ℕ) (initiates : Bool) (state after : State History) (event : Event) (reply : Reply) → TakesPart (Remembers skew) initiates state event reply after → admits_peer reply ≡ true → IsAdmissible skew state event
part_admissible skew true state after event reply step done = absurd (turn-admits_not state event (heard state.connections event) reply after step done)
part_admissible skew false state after event reply step done = behind_admissible skew state after event (reached state.connections event) reply refl step done

onward_admissible : (skew : ℕ) (answer : Option (Result (List ℕ) NetFault)) (state after : State History) (event : Event) (reply : Reply) → StepsOnward (Remembers skew) answer state event reply after → admits_peer reply ≡ true
    → IsAdmissible skew state event
onward_admissible skew (Some answer) state after event reply step done = absurd (answer-admits_not state event (awaited state.connections event) answer reply after step done)
onward_admissible skew None state after event reply step done = part_admissible skew (is_initiator event.connection state.connections) state after event reply step done

step_admissible : (skew : ℕ) (b : Bool) (state after : State History) (event : Event) (reply : Reply) → StepsBy (Remembers skew) b state event reply after → admits_peer reply ≡ true → IsAdmissible skew state event
step_admissible skew true state after event reply step done = absurd (call-admits_not state event (ready state.connections event) reply after step done)
step_admissible skew false state after event reply step done = onward_admissible skew (answer_of event.input) state after event reply step done

pub admitted-exactly : (skew : ℕ) (state after : State History) (event : Event) (reply : Reply) → Steps (Remembers skew) state event reply after → (admits_peer reply ≡ true) ↔ IsAdmissible skew state event
admitted-exactly skew state after event reply step = (
  step_admissible skew (is_call event.input) state after event reply step,
  λ a. ap admits_peer (admissible-answered skew state after event reply step a)
      ∙ admits_it (asks_dce_style (server_flags event.flags)) a.connection.context.krb5_user_to_user a.connection.context.seq_number (draw_of event) a.request,
)

-- over a replay book, an event admits its peer exactly if it is admissible
pub book-admitted-exactly : (before after : State Book) (h : History) (event : Event) (reply : Reply) → StandsFor before.gate h → Steps (Follows StandsFor) before event reply after
    → (admits_peer reply ≡ true) ↔ IsAdmissible before.gate.skew (with_gate before h) event
book-admitted-exactly before after h event reply stands step =
    let run : Runs (Follows StandsFor) before (event ∷ []) (reply ∷ []) after = (after, step, refl) in
    let remembered = (never-forgets before after (event ∷ []) (reply ∷ []) h stands run).1 in
    admitted-exactly before.gate.skew (with_gate before h) remembered.0 event reply remembered.1

pub book-admissible-answered : (before after : State Book) (h : History) (event : Event) (reply : Reply) → StandsFor before.gate h → Steps (Follows StandsFor) before event reply after
    → (a : IsAdmissible before.gate.skew (with_gate before h) event) → reply ≡ reply_to a
book-admissible-answered before after h event reply stands step a =
    let run : Runs (Follows StandsFor) before (event ∷ []) (reply ∷ []) after = (after, step, refl) in
    let remembered = (never-forgets before after (event ∷ []) (reply ∷ []) h stands run).1 in
    admissible-answered before.gate.skew (with_gate before h) remembered.0 event reply remembered.1 a
