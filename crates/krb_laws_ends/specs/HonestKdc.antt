-- The replies of honest KDCs to an initiator (RFC 4120, sections 3.1.3, 3.1.5, 3.3.3 and 3.3.4; RFC 6806, section 8), by the keys that
-- they are encrypted under and the records that they bring. The initiator knows the key that a reply has to be encrypted under, and
-- the KDC that it asked.
use Rattle.std.specs.Prelude.{◌≡◌, ◌&&◌, ℕ, ◌^◌, ◌≤◌, false, true, List, [], ◌∷◌, length, Option, Some, None, Ok, unwrap_or}
use Rattle.krb_aes.specs.Octets.{IsOctets}
use Rattle.krb_der.specs.Layout.{Layout}
use Rattle.krb_context.specs.declared.rules.Rules.{Rules}
use Rattle.krb_context.specs.Rules.{has_rule, as_rep_tagged_26, no_preauthentication, suite_of_each_key, fresh_replies}
use Rattle.krb_crypto.specs.Sealed.{IsSealed}
use Rattle.krb_crypto.specs.Suite.{key_size, suite_number}
use Rattle.krb_crypto.specs.declared.suite.CipherSuite.{CipherSuite}
use Rattle.krb_messages.specs.declared.enc_ticket_part.EncTicketPart.{EncTicketPart}
use Rattle.krb_exchange.specs.declared.kdc_rep.AsRep.{AsRep}
use Rattle.krb_exchange.specs.declared.kdc_rep.TgsRep.{TgsRep}
use Rattle.krb_exchange.specs.declared.enc_kdc_rep_part.EncAsRepPart.{EncAsRepPart}
use Rattle.krb_exchange.specs.declared.enc_kdc_rep_part.EncTgsRepPart.{EncTgsRepPart}
use Rattle.krb_exchange.specs.declared.krb_error.KrbError.{KrbError}
use Rattle.krb_exchange.specs.declared.kdc_req.KdcReqBody.{KdcReqBody}
use Rattle.krb_exchange.specs.Layouts.{as_rep_layout, tgs_rep_layout, enc_tgs_rep_part_layout, krb_error_layout}
use Rattle.sspi_core.specs.declared.draw.Draw.{Draw}
use Rattle.sspi_core.specs.declared.protocol.NetworkProtocol.{NetworkProtocol}
use Rattle.krb_as.specs.declared.kdc.Kdc.{Kdc}
use Rattle.krb_as.specs.Kdcs.{FindsKdc}
use Rattle.krb_as.specs.Replies.{Unwraps}
use Rattle.krb_replies.specs.Unseals.{IsRead}
use Rattle.krb_replies.specs.Keys.{is_tagged_26, IsFirstPart, HasSuite, facts_in}
use Rattle.krb_replies.specs.Salts.{NamesSalt, TellsEtype}
use Rattle.krb_as.specs.declared.asker.Asker.{Asker}
use Rattle.krb_as.specs.Askers.{client_key, default_salt, sized_key}
use Rattle.krb_as.specs.Replied.{LeavesSuite}
use Rattle.krb_as.specs.Fresh.{AnswersAsReq}
use Rattle.krb_tgs.specs.declared.fresh.TgsQuestion.{TgsQuestion}
use Rattle.krb_tgs.specs.Fresh.{question_of, referral_of, AnswersTgsReq}
use Rattle.krb_tgs.specs.TgsAsked.{service_of, url_for, is_same_realm}
use Rattle.krb_initiator.specs.declared.seeker.Seeker.{Seeker}
use Rattle.krb_initiator.specs.InitSteps.{body_of}
use Rattle.krb_laws_ends.specs.Offers.{Carries, IsServiceTicket}

-- what came as a reply brings this record: in a message of at most 2^23 octets
pub record Brings {A : Type 0} (layout : Layout A) (protocol : NetworkProtocol) (reply : List ℕ) (value : A) : Type 0 where
  pub message : List ℕ
  pub unwraps : Unwraps protocol (Ok reply) (Ok message)
  pub octets : IsOctets message
  pub short : length message ≤ 2 ^ 23
  pub read : IsRead layout message value

-- the first request is answered by an error, which may name the salt of the client's key. It leaves the suite of the asker, or, where each
-- key goes by its own, may name that too
pub record AnswersError (asker : Asker) (protocol : NetworkProtocol) (reply : List ℕ) (suite : CipherSuite) (salt : List ℕ) : Type 0 where
  pub error : KrbError
  pub brings : Brings krb_error_layout protocol reply error
  pub named : Option (List ℕ)
  pub names : NamesSalt error (Ok named)
  pub salt_is : salt ≡ unwrap_or named (default_salt asker.credentials)
  pub leaves : LeavesSuite (has_rule asker.rules suite_of_each_key) asker error (Ok suite)

-- the part of an AS-REP that is sealed in a text, with usage 3: tagged 26 only where the asker allows that (RFC 4120, section 5.4.2)
pub record CarriesFirst (rules : Rules) (suite : CipherSuite) (key text : List ℕ) (part : EncAsRepPart) : Type 0 where
  pub plain : List ℕ
  pub sealed : IsSealed suite key 3 text plain
  pub read : IsFirstPart (has_rule rules as_rep_tagged_26 && is_tagged_26 plain) plain part

-- the second by an AS-REP: sealed under the client's key, with usage 3, and a key of the suite is in it; used is the request's salt. Where
-- that is a rule, it answers the request with this body at the moment at which it comes
pub record GrantsFirst (asker : Asker) (body : KdcReqBody) (moment : ℕ) (suite : CipherSuite) (protocol : NetworkProtocol) (used reply : List ℕ) (rep : AsRep)
    (key : List ℕ) : Type 0 where
  pub brings : Brings as_rep_layout protocol reply rep
  pub salt : List ℕ
  pub tells : TellsEtype used rep (Ok (suite_number suite, salt))
  pub key_fits : length (client_key suite salt asker.credentials) ≡ key_size suite
  pub part : EncAsRepPart
  pub carries : CarriesFirst asker.rules suite (client_key suite salt asker.credentials) rep.0.enc_part.cipher part
  pub same_suite : HasSuite (has_rule asker.rules suite_of_each_key) suite part.0.key.key_type (Ok suite)
  pub key_is : part.0.key.key_value ≡ key
  pub fits : length key ≡ key_size suite
  pub answers : has_rule asker.rules fresh_replies ≡ true → AnswersAsReq body moment rep.0 (facts_in part.0) (Ok tt)

-- what is known of the reply of a ticket-granting service before it comes: the session key of the ticket that was shown, who was asked, and
-- what
pub record Known : Type 0 where
  pub key : List ℕ
  pub kdc : Kdc
  pub question : TgsQuestion

-- a reply, and what the step that it comes to may use
pub record Step : Type 0 where
  pub reply : List ℕ
  pub draw : Draw

-- a TGS-REP is encrypted under that key, with usage 8, and the next key of the suite is in it; the rules are the initiator's. If fresh
-- replies are a rule, it answers the question about the target, which the KDC of this realm was asked, at the moment at which it comes
pub record GrantsNext (rules : Rules) (target : List ℕ) (suite : CipherSuite) (known : Known) (step : Step) (rep : TgsRep) (key : List ℕ) : Type 0 where
  pub brings : Brings tgs_rep_layout known.kdc.protocol step.reply rep
  pub part : EncTgsRepPart
  pub carries : Carries enc_tgs_rep_part_layout suite known.key 8 rep.0.enc_part.cipher part
  pub same_suite : HasSuite (has_rule rules suite_of_each_key) suite part.0.key.key_type (Ok suite)
  pub key_is : part.0.key.key_value ≡ key
  pub fits : length key ≡ key_size suite
  pub answers : has_rule rules fresh_replies ≡ true → AnswersTgsReq target known.kdc.realm known.question step.draw.moment rep.0 (facts_in part.0) (Ok tt)

-- the KDC of a realm is known to a client of this home
abbrev pub HasKdc : Asker → List ℕ → List ℕ → Kdc → Type 0
HasKdc asker home realm kdc = FindsKdc (url_for asker.kdc_url home realm) asker.env realm (Ok kdc)

-- a referral: the ticket is for the ticket-granting service of another realm, whose KDC is known
pub record Refers (asker : Asker) (target home : List ℕ) (suite : CipherSuite) (known : Known) (step : Step) (next : Known) : Type 0 where
  pub rep : TgsRep
  pub grants : GrantsNext asker.rules target suite known step rep next.key
  pub asked : next.question ≡ question_of rep.0 step.draw
  pub named : referral_of asker.rules target (facts_in grants.part.0) rep.0 ≡ Some next.kdc.realm
  pub other : is_same_realm known.kdc.realm next.kdc.realm ≡ false
  pub found : HasKdc asker home next.kdc.realm next.kdc

-- the service's ticket, sealed under the service's key, for the client of the reply and with the reply's key
pub record Serves (rules : Rules) (target : List ℕ) (suite : CipherSuite) (service_key : List ℕ) (known : Known) (step : Step) (rep : TgsRep)
    (part : EncTicketPart) : Type 0 where
  pub grants : GrantsNext rules target suite known step rep part.key.key_value
  pub named : rep.0.ticket.sname.name_string ≡ service_of target
  pub refers_no_more : referral_of rules target (facts_in grants.part.0) rep.0 ≡ None
  pub ticket : IsServiceTicket suite service_key rep.0.ticket part
  pub same_realm : part.crealm ≡ rep.0.crealm
  pub same_name : part.cname ≡ rep.0.cname

-- all that come: mostly an error, an AS-REP, referrals, and the reply with the service's ticket
pub record Answers : Type 0 where
  pub error : Option Step
  pub first : Step
  pub referrals : List Step
  pub last : Step

-- those before the last one, in their order
abbrev pub steps_behind : Option Step → List Step → List Step
steps_behind None steps = steps
steps_behind (Some step) steps = step ∷ steps

abbrev pub steps_of : Answers → List Step
steps_of answers = steps_behind answers.error (answers.first ∷ answers.referrals)

-- an error, after which the time is sealed under the client's key
pub record AsksForKey (asker : Asker) (protocol : NetworkProtocol) (step : Step) (salt : List ℕ) : Type 0 where
  pub suite : CipherSuite
  pub error : AnswersError asker protocol step.reply suite salt
  pub key : List ℕ
  pub has_key : sized_key asker suite salt ≡ Some key

-- comes before the AS-REP. Where it is allowed that there is no pre-authentication, nothing comes, and the salt is the client's own (RFC
-- 4120, section 3.1.3)
abbrev pub LeadsToKey : Asker → NetworkProtocol → Option Step → List ℕ → Type 0
LeadsToKey asker protocol (Some step) salt = AsksForKey asker protocol step salt
LeadsToKey asker protocol None salt = (has_rule asker.rules no_preauthentication ≡ true) × (salt ≡ default_salt asker.credentials)

-- the replies of ticket-granting services are honest, from what is known on
abbrev pub AreHonest : Seeker → List ℕ → CipherSuite → List ℕ → Known → List Step → Step → TgsRep → EncTicketPart → Type 0
AreHonest seeker home suite service_key known [] last rep part = Serves seeker.asker.rules seeker.wanted.target suite service_key known last rep part
AreHonest seeker home suite service_key known (step ∷ steps) last rep part =
    (next : Known) × Refers seeker.asker seeker.wanted.target home suite known step next × AreHonest seeker home suite service_key next steps last rep part

-- honest KDCs: what they answer leads, in one suite, from the key of the client's credentials to the service's ticket, with at most
-- nine referrals; the draw is that of the start
pub record AreHonestKdcs (seeker : Seeker) (suite : CipherSuite) (service_key : List ℕ) (draw : Draw) (answers : Answers) (rep : TgsRep) (part : EncTicketPart) : Type 0 where
  pub first_kdc : Kdc
  pub first_found : FindsKdc seeker.asker.kdc_url seeker.asker.env seeker.asker.realm (Ok first_kdc)
  pub salt : List ℕ
  pub leads : LeadsToKey seeker.asker first_kdc.protocol answers.error salt
  pub as_rep : AsRep
  pub known : Known
  pub grants : GrantsFirst seeker.asker (body_of seeker draw) answers.first.draw.moment suite first_kdc.protocol salt answers.first.reply as_rep known.key
  pub asked : known.question ≡ question_of as_rep.0 answers.first.draw
  pub found : HasKdc seeker.asker as_rep.0.crealm as_rep.0.crealm known.kdc
  pub few : length answers.referrals ≤ 9
  pub honest : AreHonest seeker as_rep.0.crealm suite service_key known answers.referrals answers.last rep part
