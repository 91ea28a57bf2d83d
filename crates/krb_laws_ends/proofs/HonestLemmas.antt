-- An honest offer passes every check of an acceptor.
use Rattle.std.proofs.Common.{◌≡◌, ℕ, ◌<◌, ◌≤◌, ◌^◌, Bool, true, false, List, [], ◌∷◌, ◌++◌, length, Option, Some, refl, sym, subst, ap, ap₂, ◌∙◌, arith, lit<, lit≤, length-append, Result, Ok}
use Rattle.std.specs.Prelude.{◌==◌, ◌&&◌, ◌||◌, nat_le, if◌then◌else◌}
use Rattle.std.specs.Cmp.Lexicographic.{pointwise}
use Rattle.std.proofs.lemmas.Bool.{le-leb, and_from, or_right, eq-eqb}
use Rattle.krb_der.specs.Der.{tlv}
use Rattle.krb_der.specs.Schema.{IsSound, contents, tag_of}
use Rattle.krb_der.specs.Layout.{Layout, spelling}
use Rattle.krb_der.proofs.Lengths.{length-tlv, contents_shorter}
use Rattle.krb_crypto.specs.Suite.{key_size, suite_number}
use Rattle.krb_crypto.specs.Sealed.{IsSealed}
use Rattle.krb_crypto.specs.declared.suite.CipherSuite.{CipherSuite}
use Rattle.krb_crypto.specs.declared.suite.CipherSuite.TheVariants.{Aes128CtsHmacSha196, Aes256CtsHmacSha196}
use Rattle.krb_crypto.proofs.SealedLemmas.{is_sealed, plain_shorter}
use Rattle.krb_messages.specs.Frame.{IsFrame}
use Rattle.krb_messages.specs.Layouts.{ap_req_layout, ap_req_row, authenticator_layout, enc_ticket_part_layout, encrypted_data_row, ticket_layout}
use Rattle.krb_messages.specs.Table.{ap_req as ap_req_kind, encrypted_data}
use Rattle.krb_messages.specs.declared.ap_req.ApReq.{ApReq}
use Rattle.krb_messages.specs.declared.authenticator.Authenticator.{Authenticator}
use Rattle.krb_messages.specs.declared.enc_ticket_part.EncTicketPart.{EncTicketPart}
use Rattle.krb_messages.specs.declared.encryption.EncryptedData.{EncryptedData}
use Rattle.krb_messages.specs.declared.principal_name.PrincipalName.{PrincipalName}
use Rattle.krb_conf.specs.declared.env.Env.{Env}
use Rattle.krb_context.specs.Rules.{has_rule, names_by_components}
use Rattle.krb_context.specs.declared.context.Kerberos.{Kerberos}
use Rattle.krb_context.specs.declared.server.ServerProperties.{ServerProperties}
use Rattle.krb_context.specs.ServiceKeys.{service_key}
use Rattle.krb_context.specs.States.{is_waiting}
use Rattle.sspi_core.proofs.Chain.{takes_some, holds_true, follows, gives}
use Rattle.krb_replay.specs.declared.ask.Ask.{Ask}
use Rattle.krb_replay.specs.declared.ask.Verdict.{Verdict}
use Rattle.krb_replay.specs.declared.ask.Verdict.TheVariants.{Admitted}
use Rattle.krb_exchange.specs.declared.user_to_user.TgtReq.{TgtReq}
use Rattle.krb_replies.specs.declared.unseal.Refusals.{Refusals}
use Rattle.krb_replies.specs.Unseals.{suite_of_integer, own_key, IsRead, Unseals, OpensSealed, OpensData}
use Rattle.krb_ap.specs.Shown.{framed_ap_req}
use Rattle.krb_admission.specs.declared.admission.Answer.{Answer}
use Rattle.krb_admission.specs.declared.admission.Admission.{Admission}
use Rattle.krb_admission.specs.declared.request.Request.{Request}
use Rattle.krb_admission.specs.Accepts.{BeginsAdmission, FinishesAdmission, DecidesAdmission, Accepts, Asks}
use Rattle.krb_admission.specs.Allowed.{is_validated, is_transit_checked, channel_held, tells_bindings, is_bound, Allows}
use Rattle.krb_admission.specs.Clients.{is_known_client, user_of}
use Rattle.krb_admission.specs.Complete.{is_known_options, is_mutual, has_good_subkey, Completes}
use Rattle.krb_admission.specs.Requests.{is_same_client, OpensTicket, OpensAuthenticator, Requests, ask_of}
use Rattle.krb_admission.specs.Tokens.{ap_req_id, IsApReq, ReceivesApReq}
use Rattle.krb_admission.proofs.Once.{begins_once}
use Rattle.krb_admission.proofs.Steps.{completed}
use Rattle.krb_server.specs.declared.accept.Accepted.{Accepted}
use Rattle.krb_server.specs.Whole.{answered_as, JudgesOther, AcceptsToken, AcceptsWhole}
use Rattle.krb_server.proofs.Once.{ap_req_begins_none}
use Rattle.sspi_core.specs.declared.cause.Cause.TheVariants.{Sequence, NoServiceKey, Etype, Names, NotYet, Transited, Checksum, Bindings, ClientName, ApOptions, SubKey, Shape}
use Rattle.sspi_core.specs.declared.cause.Cause.{Cause}
use Rattle.sspi_core.specs.declared.draw.Draw.{Draw}
use Rattle.sspi_core.specs.Usernames.{UserName}
use Rattle.krb_context.specs.declared.rules.Rules.{Rules}
use Rattle.krb_exchange.specs.declared.enc_kdc_rep_part.EncAsRepPart.{EncAsRepPart}
use Rattle.krb_replies.specs.Keys.{OpensFirst, HasSuite}
use Rattle.krb_laws_ends.specs.Answers.{admission_for, IsAnswered}
use Rattle.krb_laws_ends.specs.HonestKdc.{CarriesFirst}
use Rattle.krb_laws_ends.specs.Offers.{Carries, Offer, message_of, octets_of, offered_token, request_of, FitsRules, IsBoundTo, IsHonest, IsFor}

-- ---- spellings and frames

-- a spelling spells its record
pub spells_itself : {A : Type 0} (layout : Layout A) (value : A) → IsSound layout.kind (layout.view value) → length (spelling layout value) < 2 ^ 31
    → IsRead layout (spelling layout value) value
spells_itself layout value sound short =
    record { sound = sound; short = omega (arith, contents_shorter (tag_of layout.kind) (contents layout.kind (layout.view value)), short); is = refl }

-- a frame frames its message
frames_itself : (mechanism message : List ℕ) → 0 < length mechanism → length (framed_ap_req mechanism message) < 2 ^ 31 → IsFrame mechanism ap_req_id message (framed_ap_req mechanism message)
unfolding framed_ap_req
frames_itself mechanism message named short =
    record { named = named; is = record { short = omega (arith, contents_shorter 0x60 (tlv 0x06 mechanism ++ (ap_req_id ++ message)), short); is = refl } }

-- and is longer than it
frame_longer : (mechanism message : List ℕ) → length message ≤ length (framed_ap_req mechanism message)
unfolding framed_ap_req
frame_longer mechanism message =
    omega (arith, length-tlv 0x60 (tlv 0x06 mechanism ++ (ap_req_id ++ message)), length-append (tlv 0x06 mechanism) (ap_req_id ++ message), length-append ap_req_id message)

-- ---- what is sealed is opened

pub suite_of_integer-number : (suite : CipherSuite) → suite_of_integer (suite_number suite ∷ []) ≡ Some suite
unfolding suite_of_integer
suite_of_integer-number Aes128CtsHmacSha196 = refl
suite_of_integer-number Aes256CtsHmacSha196 = refl

-- a key whose type names the suite has it
pub has_suite : (is_own : Bool) (suite : CipherSuite) → HasSuite is_own suite (suite_number suite ∷ []) (Ok suite)
has_suite false suite = gives suite
has_suite true suite = takes_some Etype (suite_of_integer (suite_number suite ∷ [])) suite (suite_of_integer-number suite)

pub opens_carried : {A : Type 0} (layout : Layout A) (refusals : Refusals) (suite : CipherSuite) (key : List ℕ) (usage : ℕ) (text : List ℕ) (value : A) → length key ≡ key_size suite
    → Carries layout suite key usage text value → OpensSealed layout refusals suite key usage text (Ok value)
unfolding OpensSealed Unseals
opens_carried layout refusals suite key usage text value fits carries =
    let long : nat_le 28 (length text) ≡ true =
    le-leb 28 (length text) (omega (arith, plain_shorter suite key usage text carries.plain carries.sealed)) in
    follows _ _ carries.plain _
    (follows _ _ tt _ (holds_true refusals.key_length (length key == key_size suite) (eq-eqb (length key) (key_size suite) fits))
    (follows _ _ tt _ (holds_true refusals.short (nat_le 28 (length text)) long) (record { is = carries.sealed })))
    (record { is = carries.read })

pub opens_first : (options : Rules) (suite : CipherSuite) (key text : List ℕ) (part : EncAsRepPart) → length key ≡ key_size suite
    → CarriesFirst options suite key text part → OpensFirst options suite key text (Ok part)
unfolding OpensFirst Unseals
opens_first options suite key text part fits carries =
    let long : nat_le 28 (length text) ≡ true =
    le-leb 28 (length text) (omega (arith, plain_shorter suite key 3 text carries.plain carries.sealed)) in
    follows _ _ carries.plain _
    (follows _ _ tt _ (holds_true own_key.key_length (length key == key_size suite) (eq-eqb (length key) (key_size suite) fits))
    (follows _ _ tt _ (holds_true own_key.short (nat_le 28 (length text)) long) (record { is = carries.sealed })))
    (record { is = carries.read })

opens_data : {A : Type 0} (layout : Layout A) (suite : CipherSuite) (key : List ℕ) (usage : ℕ) (part : EncryptedData) (value : A) → suite_of_integer part.etype ≡ Some suite
    → length key ≡ key_size suite → Carries layout suite key usage part.cipher value → OpensData layout key usage part (Ok (suite, value))
unfolding OpensData
opens_data layout suite key usage part value etype fits carries =
    follows _ _ suite _ (takes_some Etype (suite_of_integer part.etype) suite etype)
    (follows _ _ value _ (opens_carried layout own_key suite key usage part.cipher value fits carries) (gives (suite, value)))

-- ---- the AP-REQ and the authenticator of an honest offer

cipher_within : (m : ApReq) → length m.authenticator.cipher ≤ length (spelling ap_req_layout m)
unfolding ap_req_kind ap_req_row encrypted_data encrypted_data_row
cipher_within m = simp (length-tlv, length-append) (omega arith)

token_short : (dce : Bool) (mechanism message : List ℕ) → length (if dce then message else framed_ap_req mechanism message) ≤ 2 ^ 24 → length message ≤ 2 ^ 24
token_short true mechanism message h = h
token_short false mechanism message h = omega (arith, h, frame_longer mechanism message)

message_short : (key : List ℕ) (offer : Offer) → IsHonest key offer → length (octets_of offer) ≤ 2 ^ 24
message_short key offer honest = token_short offer.dce offer.mechanism (octets_of offer) honest.short

message_sound : (offer : Offer) → IsSound ticket_layout.kind (ticket_layout.view offer.ticket) → IsSound ap_req_layout.kind (ap_req_layout.view (message_of offer))
unfolding ap_req_kind ap_req_row encrypted_data encrypted_data_row
message_sound offer ticket = (lit< tt, (lit< tt, (lit≤ tt, (ticket, ((lit< tt, (tt, (tt, tt))), tt)))))

message_read : (key : List ℕ) (offer : Offer) → IsHonest key offer → IsRead ap_req_layout (octets_of offer) (message_of offer)
unfolding octets_of
message_read key offer honest =
    let short : length (octets_of offer) ≤ 2 ^ 24 = message_short key offer honest in
    spells_itself ap_req_layout (message_of offer) (message_sound offer honest.ticket_sound) (omega (arith, short))

is_ap_req : (dce : Bool) (mechanism octets : List ℕ) (message : ApReq) → 0 < length mechanism → length (if dce then octets else framed_ap_req mechanism octets) ≤ 2 ^ 24
    → IsRead ap_req_layout octets message → IsApReq dce (if dce then octets else framed_ap_req mechanism octets) message
is_ap_req true mechanism octets message named short read = read
is_ap_req false mechanism octets message named short read =
    record { oid = mechanism; octets = octets; frame = frames_itself mechanism octets named (omega (arith, short)); read = read }

receives : (key : List ℕ) (offer : Offer) → IsHonest key offer → ReceivesApReq offer.dce (offered_token offer) (Ok (message_of offer))
unfolding ReceivesApReq
receives key offer honest =
    follows _ _ tt _ (holds_true Shape (nat_le (length (offered_token offer)) 16777216) (le-leb (length (offered_token offer)) 16777216 honest.short))
    (record { is = is_ap_req offer.dce offer.mechanism (octets_of offer) (message_of offer) honest.named honest.short (message_read key offer honest) })

carries_authenticator : (key : List ℕ) (offer : Offer) → IsHonest key offer
    → Carries authenticator_layout offer.suite offer.part.key.key_value 11 (message_of offer).authenticator.cipher offer.authenticator
unfolding octets_of
carries_authenticator key offer honest =
    let plain : List ℕ = spelling authenticator_layout offer.authenticator in
    let cipher : List ℕ = (message_of offer).authenticator.cipher in
    let sealed : IsSealed offer.suite offer.part.key.key_value 11 cipher plain =
    is_sealed offer.suite offer.part.key.key_value 11 offer.confounder plain honest.confounder_size honest.octets in
    let whole : length (spelling ap_req_layout (message_of offer)) ≤ 2 ^ 24 = message_short key offer honest in
    let short : length plain < 2 ^ 31 = omega (arith, plain_shorter offer.suite offer.part.key.key_value 11 cipher plain sealed, cipher_within (message_of offer), whole) in
    record { plain = plain; sealed = sealed; read = spells_itself authenticator_layout offer.authenticator honest.authenticator_sound short }

-- ---- the client

pub same_octets : (xs : List ℕ) → pointwise ◌==◌ xs xs ≡ true
same_octets [] = refl
same_octets (x ∷ xs) = and_from (x == x) (pointwise ◌==◌ xs xs) (eq-eqb x x refl) (same_octets xs)

same_parts : (xs : List (List ℕ)) → pointwise (pointwise ◌==◌) xs xs ≡ true
same_parts [] = refl
same_parts (x ∷ xs) = and_from (pointwise ◌==◌ x x) (pointwise (pointwise ◌==◌) xs xs) (same_octets x) (same_parts xs)

same_client : (rules : Rules) (part : EncTicketPart) (authenticator : Authenticator) → authenticator.crealm ≡ part.crealm → authenticator.cname ≡ part.cname
    → is_same_client rules part authenticator ≡ true
same_client rules part authenticator realm name =
    let same_type : Bool = has_rule rules names_by_components || pointwise ◌==◌ part.cname.name_type authenticator.cname.name_type in
    let same_string : Bool = pointwise (pointwise ◌==◌) part.cname.name_string authenticator.cname.name_string in
    and_from (pointwise ◌==◌ part.crealm authenticator.crealm) (same_type && same_string)
    (ap (pointwise ◌==◌ part.crealm) realm ∙ same_octets part.crealm)
    (and_from same_type same_string
    (or_right (has_rule rules names_by_components) (pointwise ◌==◌ part.cname.name_type authenticator.cname.name_type)
    (ap (λ n. pointwise ◌==◌ part.cname.name_type n.name_type) name ∙ same_octets part.cname.name_type))
    (ap (λ n. pointwise (pointwise ◌==◌) part.cname.name_string n.name_string) name ∙ same_parts part.cname.name_string))

-- ---- the checks

opens_ticket : (properties : ServerProperties) (key : List ℕ) (offer : Offer) → service_key properties offer.ticket.sname.name_string ≡ Some key → IsHonest key offer
    → OpensTicket properties (message_of offer) (Ok offer.part)
unfolding OpensTicket
opens_ticket properties key offer holds honest =
    follows _ _ key _ (takes_some NoServiceKey (service_key properties offer.ticket.sname.name_string) key holds)
    (follows _ _ (offer.suite, offer.part) _
    (opens_data enc_ticket_part_layout offer.suite key 2 offer.ticket.enc_part offer.part honest.ticket.etype honest.ticket.key_fits honest.ticket.carries) (gives offer.part))

opens_authenticator : (rules : Rules) (key : List ℕ) (offer : Offer) → IsHonest key offer
    → OpensAuthenticator rules (message_of offer) offer.part (Ok (offer.suite, offer.authenticator))
unfolding OpensAuthenticator
opens_authenticator rules key offer honest =
    follows _ _ (offer.suite, offer.authenticator) _
    (opens_data authenticator_layout offer.suite offer.part.key.key_value 11 (message_of offer).authenticator offer.authenticator
    (suite_of_integer-number offer.suite) honest.ticket.session_key_fits (carries_authenticator key offer honest))
    (follows _ _ tt _ (holds_true Names (is_same_client rules offer.part offer.authenticator) (same_client rules offer.part offer.authenticator honest.same_realm honest.same_name))
    (gives (offer.suite, offer.authenticator)))

requests : (server : Kerberos) (client : Option UserName) (offer : Offer) (for_it : IsFor server client offer)
    → Requests server.rules for_it.properties offer.dce (offered_token offer) (Ok (request_of offer))
unfolding Requests
requests server client offer for_it =
    follows _ _ (message_of offer) _ (receives for_it.key offer for_it.honest)
    (follows _ _ offer.part _ (opens_ticket for_it.properties for_it.key offer for_it.holds for_it.honest)
    (follows _ _ (offer.suite, offer.authenticator) _ (opens_authenticator server.rules for_it.key offer for_it.honest) (gives (request_of offer))))

allows : (server : Kerberos) (offer : Offer) → FitsRules server.rules offer.part → IsBoundTo (channel_held server) offer.authenticator.cksum
    → Allows server (request_of offer) (Ok tt)
unfolding Allows
allows server offer fits bound =
    follows _ _ tt _ (holds_true NotYet (is_validated server.rules offer.part) fits.validated)
    (follows _ _ tt _ (holds_true Transited (is_transit_checked server.rules offer.part) fits.transit_checked)
    (follows _ _ tt _ (holds_true Checksum (tells_bindings (channel_held server) offer.authenticator.cksum) bound.tells)
    (holds_true Bindings (is_bound (channel_held server) offer.authenticator.cksum) bound.same)))

pub begins : (server : Kerberos) (client : Option UserName) (offer : Offer) → IsFor server client offer
    → BeginsAdmission server offer.dce (offered_token offer) (Ok (request_of offer))
unfolding BeginsAdmission
begins server client offer for_it =
    follows _ _ tt _ (holds_true Sequence (is_waiting server.state) for_it.waits)
    (follows _ _ for_it.properties _ (takes_some Sequence server.server for_it.properties for_it.has)
    (follows _ _ (request_of offer) _ (requests server client offer for_it)
    (follows _ _ tt _ (allows server offer for_it.fits for_it.bound) (gives (request_of offer)))))

good_subkey : (request : Request) → is_mutual request.message.ap_options ≡ true → has_good_subkey request ≡ true
good_subkey request asks = rw asks refl

completes : (server : Kerberos) (client : Option UserName) (offer : Offer) → IsFor server client offer → Completes server.rules (request_of offer) (Ok client)
unfolding Completes
completes server client offer for_it =
    let honest = for_it.honest in
    let name : PrincipalName = offer.authenticator.cname in
    let realm : List ℕ = offer.authenticator.crealm in
    let known : is_known_client server.rules name realm ≡ true =
    ap₂ (λ n r. is_known_client server.rules n r) honest.same_name honest.same_realm ∙ for_it.fits.known in
    let user : user_of server.rules name realm ≡ client = ap₂ (λ n r. user_of server.rules n r) honest.same_name honest.same_realm ∙ for_it.client_is in
    follows _ _ tt _ (holds_true ClientName (is_known_client server.rules name realm) known)
    (follows _ _ tt _ (holds_true ApOptions (is_known_options (message_of offer).ap_options) honest.known)
    (follows _ _ tt _ (holds_true SubKey (has_good_subkey (request_of offer)) (good_subkey (request_of offer) honest.mutual_asked))
    (record { is = ap Ok (sym user) })))

finishes : (server : Kerberos) (draw : Draw) (client : Option UserName) (offer : Offer) → IsFor server client offer
    → FinishesAdmission server offer.dce draw (request_of offer) (Ok (admission_for server draw client offer))
unfolding FinishesAdmission
finishes server draw client offer for_it =
    follows _ _ client _ (completes server client offer for_it) (record { is = rw for_it.honest.mutual_asked refl })

pub admitted : (server : Kerberos) (draw : Draw) (client : Option UserName) (offer : Offer) → IsFor server client offer
    → DecidesAdmission server offer.dce (offered_token offer) draw Admitted (Ok (admission_for server draw client offer))
unfolding DecidesAdmission
admitted server draw client offer for_it =
    follows _ _ (request_of offer) _ (begins server client offer for_it) (follows _ _ tt _ (record { is = refl }) (finishes server draw client offer for_it))

-- ---- the gate

module _ {G : Type 0} (admits : G → Ask → Verdict → G → Type 0) (server server' : Kerberos) (env : Env) (draw : Draw) (client : Option UserName) (offer : Offer) (old new : G) (answer : Result Accepted Cause) (for_it : IsFor server client offer) where
  -- such a token is no TGT-REQ
  other : AcceptsWhole admits server offer.dce (offered_token offer) env draw old answer server' new → JudgesOther admits server offer.dce (offered_token offer) draw old answer server' new
  other step =
      let none = ap_req_begins_none server offer.dce (offered_token offer) (request_of offer) (begins server client offer for_it) step.tgt_req step.found in
      subst (λ (t : Option TgtReq). AcceptsToken admits server offer.dce (offered_token offer) env draw old t answer server' new) none step.made

  asked : (judged : Result Answer Cause) (step : Accepts admits server offer.dce (offered_token offer) draw old judged server' new) → admits old (ask_of server.rules (request_of offer) draw.moment) step.verdict new
  asked judged step =
      subst (λ (r : Result Request Cause). Asks admits server.rules draw.moment old r step.verdict new)
      ((begins_once server offer.dce (offered_token offer)).same step.request (Ok (request_of offer)) step.begun (begins server client offer for_it)) step.gate

  pub is_answered : AcceptsWhole admits server offer.dce (offered_token offer) env draw old answer server' new → IsAnswered admits server draw client offer old answer server' new
  is_answered step =
      let judges = other step in
      let admission : Admission = admission_for server draw client offer in
      let both = λ (verdict : judges.accepts.verdict ≡ Admitted). completed admits server offer.dce (offered_token offer) draw old new judges.judged server' admission judges.accepts verdict
      (admitted server draw client offer for_it) in record {
        verdict = judges.accepts.verdict;
        asked = asked judges.judged judges.accepts;
        answered = λ verdict. judges.answer_is ∙ ap answered_as (both verdict).0;
        made = λ verdict. (both verdict).1;
      }
