-- An exchange of both ends, at two connections of one service, as one list of events.
use Rattle.std.specs.Prelude.{◌≡◌, ◌==◌, ℕ, true, false, List, [], ◌∷◌, Some, None}
use Rattle.std.specs.List.{AllByRecursion}
use Rattle.krb_admission.specs.Allowed.{channel_held}
use Rattle.krb_admission.specs.Requests.{ask_of}
use Rattle.krb_admission.specs.declared.request.Request.{Request}
use Rattle.krb_as.specs.declared.client.Client.{Client}
use Rattle.krb_crypto.specs.declared.suite.CipherSuite.{CipherSuite}
use Rattle.krb_laws_ends.specs.Answers.{AdmitsOnly, AreNew, IsDraw}
use Rattle.krb_laws_ends.specs.Fetches.{CanBegin, seeker_for, HoldsKey}
use Rattle.krb_laws_ends.specs.HonestKdc.{Step, Answers, AreHonestKdcs}
use Rattle.krb_laws_ends.specs.Offers.{FitsRules}
use Rattle.krb_exchange.specs.declared.kdc_rep.TgsRep.{TgsRep}
use Rattle.krb_machine.specs.Initiations.{options_of}
use Rattle.krb_machine.specs.Policy.{State, Brings}
use Rattle.krb_machine.specs.declared.connection.Connection.{Connection}
use Rattle.krb_machine.specs.declared.reply.Reply.{Reply}
use Rattle.krb_machine.specs.declared.reply.Reply.TheVariants.{Done, Ask, Buffers, Mic, Verified, Refused}
use Rattle.krb_messages.specs.declared.enc_ticket_part.EncTicketPart.{EncTicketPart}
use Rattle.krb_replay.specs.declared.ask.Ask.{Ask as Asks}
use Rattle.krb_replay.specs.declared.ask.Verdict.{Verdict}
use Rattle.krb_script.specs.Script.{at_id}
use Rattle.krb_script.specs.declared.input.Input.{Input}
use Rattle.krb_script.specs.declared.input.Input.TheVariants.{Token, Start, KdcReply}
use Rattle.krb_script.specs.declared.item.Event.{Event}
use Rattle.sspi_core.specs.declared.draw.Draw.{Draw}
use Rattle.sspi_core.specs.declared.flags.ClientRequestFlags.{ClientRequestFlags}
use Rattle.sspi_core.specs.declared.identity.CredentialsBuffers.{CredentialsBuffers}
use Rattle.sspi_core.specs.declared.results.SecurityStatus.TheVariants.{Ok as Complete, ContinueNeeded}
use Rattle.krb_laws_service.specs.Served.{HaveOneContext}

-- two connections by their numbers, the flags of every event, three replies of the KDC of the client's realm, and the draws: at
-- the start, when the acceptor gets the initiator's token, when the initiator gets the acceptor's token, and, in DCE style, when the
-- acceptor gets the third leg
pub record Exchanged : Type 0 where
  pub initiator : ℕ
  pub acceptor : ℕ
  pub flags : ClientRequestFlags
  pub start : Draw
  pub error : Step
  pub first : Step
  pub last : Step
  pub accepting : Draw
  pub ending : Draw
  pub closing : Draw

abbrev pub event_at : ℕ → ClientRequestFlags → Draw → Input → Event
event_at id flags draw input = record { connection = id; moment = draw.moment; random = draw.random; flags = flags; input = input }

-- the token that a reply has for the peer
abbrev pub token_in : Reply → List ℕ
token_in (Done status token admits) = token
token_in (Ask request) = []
token_in (Buffers message) = []
token_in (Mic token) = []
token_in Verified = []
token_in (Refused error) = []

-- the KDC of the client's realm has the service, so there is no referral
abbrev pub replies_of : Exchanged → Answers
replies_of e = record { error = Some e.error; first = e.first; referrals = []; last = e.last }

-- the acceptor gets the token of a reply
abbrev pub handing : Exchanged → Reply → Event
handing e said = event_at e.acceptor e.flags e.accepting (Token (token_in said))

-- the initiator is started and gets the replies of its KDC; the acceptor gets the token of the reply to the last of these, and the
-- initiator gets the token of the acceptor's reply
abbrev pub events_of : Exchanged → Reply → Reply → List Event → List Event
events_of e said answered more =
    event_at e.initiator e.flags e.start Start
    ∷ event_at e.initiator e.flags e.error.draw (KdcReply e.error.reply)
    ∷ event_at e.initiator e.flags e.first.draw (KdcReply e.first.reply)
    ∷ event_at e.initiator e.flags e.last.draw (KdcReply e.last.reply)
    ∷ handing e said
    ∷ event_at e.initiator e.flags e.ending (Token (token_in answered))
    ∷ more

-- in DCE style the acceptor gets the third leg
abbrev pub closing_of : Exchanged → Reply → List Event
closing_of e ended = event_at e.acceptor e.flags e.closing (Token (token_in ended)) ∷ []

-- an initiator and an acceptor of a service, which await no KDC; the replies are those of an honest KDC, and the acceptor holds the
-- service's key. The ticket is one that the acceptor's rules allow, and the acceptor holds its clients to no channel
pub record AreReady {G : Type 0} (before : State G) (e : Exchanged) (initiator acceptor : Connection) (target service_key : List ℕ) (credentials : CredentialsBuffers)
    (client : Client) (suite : CipherSuite) (rep : TgsRep) (part : EncTicketPart) : Type 0 where
  pub initiates : at_id e.initiator before.connections ≡ Some initiator
  pub accepts : at_id e.acceptor before.connections ≡ Some acceptor
  pub apart : (e.initiator == e.acceptor) ≡ false
  pub initiator_free : initiator.exchange ≡ None
  pub acceptor_free : acceptor.exchange ≡ None
  pub can : CanBegin initiator.context (options_of initiator before.env e.flags []) target credentials client
  pub honest : AreHonestKdcs (seeker_for initiator.context (options_of initiator before.env e.flags []) target credentials client) suite service_key
      e.start (replies_of e) rep part
  pub holds : HoldsKey acceptor.context target service_key
  pub fits : FitsRules acceptor.context.rules part
  pub unbound : channel_held acceptor.context ≡ None
  pub are_new : AreNew initiator.context acceptor.context
  pub drawn : AllByRecursion IsDraw (e.start ∷ e.error.draw ∷ e.first.draw ∷ e.last.draw ∷ e.accepting ∷ e.ending ∷ e.closing ∷ [])

module _ {G : Type 0} (admits : G → Asks → Verdict → G → Type 0) where
  -- the gate can only admit the request that an event brings
  abbrev pub CanOnlyAdmit : State G → Event → Type 0
  CanOnlyAdmit state event = (request : Request) (new : G) (brings : Brings state.connections event request)
      → AdmitsOnly admits state.gate (ask_of brings.connection.context.rules request event.moment) new

-- the connections are in the service, and have one context
pub record MeetIn {G : Type 0} (e : Exchanged) (suite : CipherSuite) (part : EncTicketPart) (ec : ℕ) (after : State G) : Type 0 where
  pub initiator : Connection
  pub acceptor : Connection
  pub initiates : at_id e.initiator after.connections ≡ Some initiator
  pub accepts : at_id e.acceptor after.connections ≡ Some acceptor
  pub have : HaveOneContext suite part e.accepting ec initiator acceptor

-- the replies to the events: the initiator sends a token, the acceptor admits it with a token of its own, and the initiator is done
pub record EndsPlainly {G : Type 0} (e : Exchanged) (suite : CipherSuite) (part : EncTicketPart) (ec : ℕ) (said answered ended : Reply) (after : State G) : Type 0 where
  pub said_is : said ≡ Done ContinueNeeded (token_in said) false
  pub answered_is : answered ≡ Done Complete (token_in answered) true
  pub ended_is : ended ≡ Done Complete [] false
  pub meet : MeetIn e suite part ec after

-- in DCE style the acceptor waits for the third leg, and takes it
pub record EndsInTurn {G : Type 0} (e : Exchanged) (suite : CipherSuite) (part : EncTicketPart) (said answered ended closed : Reply) (after : State G) : Type 0 where
  pub said_is : said ≡ Done ContinueNeeded (token_in said) false
  pub answered_is : answered ≡ Done ContinueNeeded (token_in answered) true
  pub ended_is : ended ≡ Done Complete (token_in ended) false
  pub closed_is : closed ≡ Done Complete [] false
  pub meet : MeetIn e suite part 16 after
