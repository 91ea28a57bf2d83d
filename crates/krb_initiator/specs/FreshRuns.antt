-- The replies that brought an initiator so far, each of which answers the request that this very run made (RFC 4120, sections 3.1.5
-- and 3.3.4); and a service's answer for the authenticator that was shown (section 3.2.5): next to the run, as contracts see it.
use Rattle.std.specs.Prelude.{◌≡◌, ℕ, true, List, [], ◌∷◌, ◌++◌, map, take, Some, None, unwrap_or, Result, Ok}
use Rattle.std.specs.Int.{w32, from_be_bytes}
use Rattle.krb_exchange.specs.declared.kdc_rep.AsRep.{AsRep}
use Rattle.krb_exchange.specs.declared.kdc_rep.TgsRep.{TgsRep}
use Rattle.krb_messages.specs.declared.ap_rep.ApRep.{ApRep}
use Rattle.krb_messages.specs.declared.ap_rep.EncApRepPart.{EncApRepPart}
use Rattle.krb_context.specs.Params.{suite_of}
use Rattle.sspi_core.specs.declared.draw.Draw.{Draw}
use Rattle.sspi_generator.specs.declared.network.NetFault.{NetFault}
use Rattle.krb_replies.specs.Answered.{OpensApRep}
use Rattle.krb_replies.specs.Fresh.{has_value, repeats_nonce, is_valid_at, same_components}
use Rattle.krb_replies.specs.Keys.{BringsNext}
use Rattle.krb_replies.specs.Realms.{referral_realm}
use Rattle.krb_as.specs.Fresh as as_replies
use Rattle.krb_as.specs.ReplyKeys.{TakesReplyKey}
use Rattle.krb_as.specs.declared.as_phase.AsPhase.TheVariants.{AwaitsError, AwaitsAsRep}
use Rattle.krb_as.specs.declared.done.InitDone.{InitDone}
use Rattle.krb_as.specs.declared.key.Grant.{Grant}
use Rattle.krb_as.specs.declared.key.SealedTime.{SealedTime}
use Rattle.krb_tgs.specs.Fresh as tgs_replies
use Rattle.krb_tgs.specs.Fresh.{question_of, referral_of}
use Rattle.krb_tgs.specs.TgsAsked.{drawn_nonce, service_of}
use Rattle.krb_ap.specs.Answered.{IsApRep, is_time_of}
use Rattle.krb_ap.specs.Initiators.{is_bare}
use Rattle.krb_ap.specs.Shown.{shown_state}
use Rattle.krb_ap.specs.declared.initiator.Initiator.{Initiator}
use Rattle.krb_initiator.specs.Came.{IsGranted, GrantsFirst, NamesFirst, LeaveSalt}
use Rattle.krb_initiator.specs.InitSteps.{body_of}
use Rattle.krb_initiator.specs.declared.seeker.Seeker.{Seeker}
use Rattle.krb_initiator.specs.declared.seeker.TgsLeg.{TgsLeg}
use Rattle.krb_initiator.specs.declared.seeker.InitPhase.{InitPhase}
use Rattle.krb_initiator.specs.declared.seeker.InitPhase.TheVariants.{New, InAsExchange, AwaitsTgsRep, Over}

-- a reply, and the draw of the step that it came to: the moment then, and the random octets of the request that this step made
pub record Arrival : Type 0 where
  pub reply : Result (List ℕ) NetFault
  pub draw : Draw

abbrev pub replies_in : List Arrival → List (Result (List ℕ) NetFault)
replies_in arrivals = map (λ (arrival : Arrival). arrival.reply) arrivals

-- ---- the AS-REP

-- a ticket answers the AS-REQ of the run that began with this draw: the encrypted part next to its key has, by its value, the nonce
-- that was drawn then, its first four octets; it is for the client and for the service that were asked for; and it is valid at the
-- moment at which it came (RFC 4120, section 3.1.5; RFC 6806, section 6)
pub record AnswersStart (seeker : Seeker) (start : Draw) (moment : ℕ) (ticket : Grant) : Type 0 where
  pub nonce : repeats_nonce (take 4 start.random) ticket.facts ≡ true
  pub client : as_replies.names_client (body_of seeker start) ticket.rep ≡ true
  pub service : as_replies.names_service (body_of seeker start) ticket.facts ≡ true
  pub valid : is_valid_at moment ticket.facts ≡ true

-- an AS-REP came with this ticket: it is encrypted under the key of the credentials, with the salt that it names or otherwise with
-- this one, and answers the AS-REQ
pub record BringsFirstTicket (seeker : Seeker) (start : Draw) (arrival : Arrival) (salt : List ℕ) (ticket : Grant) : Type 0 where
  pub as_rep : AsRep
  pub granted : GrantsFirst arrival.reply as_rep
  pub opened : TakesReplyKey seeker.asker.rules seeker.asker.credentials salt as_rep (Ok (record { suite = ticket.suite; key = ticket.key; facts = ticket.facts }))
  pub brought : ticket.rep ≡ as_rep.0
  pub answers : AnswersStart seeker start arrival.draw.moment ticket

-- ---- the TGS-REPs

-- a ticket answers the TGS-REQ that showed another to the KDC of this realm: by its value it has the nonce that was drawn for that request,
-- octets four to seven of that draw; it is for the client of the ticket that was shown; it is one of that realm, for the target or for a
-- further ticket-granting service; and it is valid at the moment at which it came (RFC 4120, section 3.3.4; RFC 6806, section 8)
pub record AnswersShown (target realm : List ℕ) (shown : Grant) (asked : Draw) (moment : ℕ) (ticket : Grant) : Type 0 where
  pub nonce : has_value (from_be_bytes w32 (drawn_nonce asked)) ticket.facts.nonce ≡ true
  pub client : tgs_replies.names_client (question_of shown.rep asked) ticket.rep ≡ true
  pub service : tgs_replies.names_service target realm ticket.rep ticket.facts ≡ true
  pub valid : is_valid_at moment ticket.facts ≡ true

-- a TGS-REP came with this ticket: it is encrypted under the session key of the ticket that was shown, and answers the TGS-REQ that
-- showed it to the KDC of this realm
pub record BringsFurtherTicket (seeker : Seeker) (realm : List ℕ) (shown : Grant) (asked : Draw) (arrival : Arrival) (ticket : Grant) : Type 0 where
  pub tgs_rep : TgsRep
  pub granted : IsGranted arrival.reply tgs_rep
  pub opened : BringsNext seeker.asker.rules shown.suite shown.key tgs_rep (Ok (record { suite = ticket.suite; key = ticket.key; facts = ticket.facts }))
  pub brought : ticket.rep ≡ tgs_rep.0
  pub answers : AnswersShown seeker.wanted.target realm shown asked arrival.draw.moment ticket

-- the realm that a ticket refers to, whose KDC is asked next
abbrev pub next_realm : Grant → List ℕ
next_realm ticket = unwrap_or (referral_realm ticket.rep.ticket.sname) []

-- from a ticket, which a request showed to the KDC of a realm that was drawn so, these TGS-REPs lead to the last ticket, and to the realm
-- whose KDC is asked with it. The request that shows a ticket is drawn at the step to which the ticket came
abbrev pub LeadsOn : Seeker → List ℕ → Grant → Draw → List Arrival → List ℕ → Grant → Draw → Type 0
LeadsOn seeker realm shown asked [] to last at = (realm ≡ to) × (shown ≡ last) × (asked ≡ at)
LeadsOn seeker realm shown asked (arrival ∷ arrivals) to last at =
    (ticket : Grant) × BringsFurtherTicket seeker realm shown asked arrival ticket × LeadsOn seeker (next_realm ticket) ticket arrival.draw arrivals to last at

-- ---- the run

-- mostly an error, an AS-REP, and TGS-REPs, of which each answers the request that the run made after the one before it; the last one
-- has this ticket, at the step of this draw. The first ticket is shown to the KDC of the client's own realm, and each further one to
-- that of the realm that it refers to
pub record IsFreshChain (seeker : Seeker) (start : Draw) (arrivals : List Arrival) (last : Grant) (at : Draw) : Type 0 where
  pub before : List Arrival
  pub first : Arrival
  pub rest : List Arrival
  pub are : arrivals ≡ before ++ first ∷ rest
  pub salt : List ℕ
  pub leave : LeaveSalt seeker (replies_in before) salt
  pub ticket : Grant
  pub begins : BringsFirstTicket seeker start first salt ticket
  pub to : List ℕ
  pub leads : LeadsOn seeker ticket.rep.crealm ticket first.draw rest to last at

-- the error alone: the first request is made again, with the time encrypted next to it
pub record CameAgain (seeker : Seeker) (start : Draw) (arrivals : List Arrival) (sealed : SealedTime) : Type 0 where
  pub error : Arrival
  pub are : arrivals ≡ error ∷ []
  pub names : NamesFirst seeker error.reply sealed.salt
  pub body : sealed.body ≡ body_of seeker start

-- a fresh chain of these replies, and the last ticket was shown to that KDC
pub record CameWithTicket (seeker : Seeker) (start : Draw) (arrivals : List Arrival) (leg : TgsLeg) : Type 0 where
  pub last : Grant
  pub at : Draw
  pub chain : IsFreshChain seeker start arrivals last at
  pub suite : leg.suite ≡ last.suite
  pub key : leg.key ≡ last.key
  pub question : leg.question ≡ question_of last.rep at
  pub realm : leg.kdc.realm ≡ chain.to

-- these replies, in their order, bring an initiator that began with this draw to this phase
abbrev pub CameFresh : Seeker → Draw → List Arrival → InitPhase → Type 0
CameFresh seeker start arrivals New = arrivals ≡ []
CameFresh seeker start arrivals (InAsExchange (AwaitsError kdc body)) = (arrivals ≡ []) × (body ≡ body_of seeker start)
CameFresh seeker start arrivals (InAsExchange (AwaitsAsRep sealed)) = CameAgain seeker start arrivals sealed
CameFresh seeker start arrivals (AwaitsTgsRep leg) = CameWithTicket seeker start arrivals leg
CameFresh seeker start arrivals Over = Unit {0}

-- the replies bring it to this end: the session key is that of the last ticket of the chain, which is for the target, by its
-- encrypted part, and which is shown to the service with an authenticator of the moment at which it came
pub record IsFreshSession (seeker : Seeker) (start : Draw) (arrivals : List Arrival) (done : InitDone) : Type 0 where
  pub last : Grant
  pub at : Draw
  pub chain : IsFreshChain seeker start arrivals last at
  pub is_service : referral_of seeker.asker.rules seeker.wanted.target last.facts last.rep ≡ None
  pub for_target : same_components last.facts.sname.name_string (service_of seeker.wanted.target) ≡ true
  pub session_key : done.change.encryption_params.session_key ≡ Some last.key
  pub asked_at : done.change.asked_at ≡ Some at.moment
  pub state : done.change.state ≡ shown_state seeker.errand.initiator

-- ---- the service's answer

-- a token is an AP-REP that is encrypted under the session key of an initiator, and has the time of the authenticator that it showed,
-- by the values of both its fields (RFC 4120, section 3.2.5)
pub record AnswersAuthenticator (initiator : Initiator) (token : List ℕ) : Type 0 where
  pub message : ApRep
  pub is_message : IsApRep (is_bare initiator.flags) token message
  pub key : List ℕ
  pub has_key : initiator.params.session_key ≡ Some key
  pub part : EncApRepPart
  pub opened : OpensApRep (suite_of initiator.params) key message (Ok part)
  pub moment : ℕ
  pub asked_at : initiator.asked_at ≡ Some moment
  pub time : is_time_of part moment ≡ true
