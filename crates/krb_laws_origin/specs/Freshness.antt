-- The freshness of an initiator's log-in: its session key comes from replies of KDCs to the requests of this very exchange (RFC 4120,
-- sections 3.1.5 and 3.3.4), and the service answers the very authenticator that was shown (section 3.2.5). Events bring all of them.
use Rattle.std.specs.Prelude.{◌≡◌, ℕ, true, List, [], ◌∷◌, ◌++◌, map, Option, Some, None, Result, Ok}
use Rattle.krb_crypto.specs.declared.suite.CipherSuite.{CipherSuite}
use Rattle.krb_messages.specs.declared.ap_rep.ApRep.{ApRep}
use Rattle.krb_messages.specs.declared.ap_rep.EncApRepPart.{EncApRepPart}
use Rattle.krb_context.specs.Rules.{has_rule, fresh_replies, answers_its_authenticator}
use Rattle.sspi_core.specs.Flags.{has_flag, mutual_auth}
use Rattle.sspi_core.specs.declared.draw.Draw.{Draw}
use Rattle.sspi_generator.specs.declared.network.NetFault.{NetFault}
use Rattle.krb_replies.specs.Answered.{OpensApRep}
use Rattle.krb_replies.specs.Fresh.{same_components}
use Rattle.krb_as.specs.Clients.{NamesClient}
use Rattle.krb_as.specs.declared.key.Grant.{Grant}
use Rattle.krb_tgs.specs.Fresh.{referral_of}
use Rattle.krb_tgs.specs.TgsAsked.{service_of}
use Rattle.krb_ap.specs.Answered.{IsApRep, is_time_of}
use Rattle.krb_ap.specs.Initiators.{is_bare}
use Rattle.krb_initiator.specs.FreshRuns.{Arrival, IsFreshChain}
use Rattle.krb_initiator.specs.declared.seeker.Seeker.{Seeker}
use Rattle.krb_script.specs.declared.input.Input.TheVariants.{Token}
use Rattle.krb_script.specs.declared.item.Event.{Event}
use Rattle.krb_machine.specs.Initiations.{is_before}
use Rattle.krb_machine.specs.Policy.{draw_of}
use Rattle.krb_machine.specs.declared.connection.Connection.{Connection}
use Rattle.krb_laws_origin.specs.Origins.{is_heard, answer_to}

-- the answer of the network that an event brings to the connection, with the moment of the event and the random octets that it draws;
-- and the answers that events bring, in their order
abbrev pub arrival_at : Event → Result (List ℕ) NetFault → Arrival
arrival_at event reply = record { reply = reply; draw = draw_of event }

abbrev pub arrivals_by : ℕ → Event → List Arrival
arrivals_by id event = map (arrival_at event) (answer_to id event)

abbrev pub arrivals_in : ℕ → List Event → List Arrival
arrivals_in id [] = []
arrivals_in id (event ∷ events) = arrivals_by id event ++ arrivals_in id events

-- one of these events, which is for the connection, begins an exchange; and in a stretch right after it the network brings the
-- connection these replies, in their order, and nothing else
pub record IsExchange (id : ℕ) (start : Event) (arrivals : List Arrival) (events : List Event) : Type 0 where
  pub earlier : List Event
  pub during : List Event
  pub later : List Event
  pub are : events ≡ earlier ++ (start ∷ (during ++ later))
  pub is_for : is_heard id start ≡ true
  pub brought : arrivals_in id during ≡ arrivals

-- a ticket is sought for the connection's own target, for the client of its own identity, and by its own rules, with the flags of the
-- event that begins the exchange
pub record SeeksFor (connection : Connection) (start : Event) (seeker : Seeker) : Type 0 where
  pub identity : connection.context.auth_identity ≡ Some seeker.asker.credentials
  pub client : NamesClient seeker.asker.credentials connection.context.config.client_computer_name seeker.asker.env (Ok seeker.client)
  pub rules : seeker.asker.rules ≡ connection.context.rules
  pub target : connection.target ≡ Some seeker.wanted.target
  pub flags : seeker.errand.initiator.flags ≡ start.flags

-- a session key comes from an exchange that one of these events began: from replies that events brought in a stretch right after it,
-- each of which answers the request that the exchange made at the reply before it. The AS-REP has the nonce that the first event drew
-- (RFC 4120, section 3.1.5), each TGS-REP that of the event that brought the reply before it (section 3.3.4); the last ticket is for
-- the target, by the encrypted part of its TGS-REP. With that ticket the initiator shows an authenticator of the moment of the last
-- event
pub record IsFreshLogIn (first : Connection) (id : ℕ) (events : List Event) (key : List ℕ) (shown_at : ℕ) : Type 0 where
  pub start : Event
  pub seeker : Seeker
  pub seeks : SeeksFor first start seeker
  pub arrivals : List Arrival
  pub exchange : IsExchange id start arrivals events
  pub last : Grant
  pub at : Draw
  pub chain : IsFreshChain seeker (draw_of start) arrivals last at
  pub is_service : referral_of seeker.asker.rules seeker.wanted.target last.facts last.rep ≡ None
  pub for_target : same_components last.facts.sname.name_string (service_of seeker.wanted.target) ≡ true
  pub key_is : last.key ≡ key
  pub shown_is : at.moment ≡ shown_at

-- there is a session key, and it is fresh; the context keeps the moment of the authenticator that was shown
pub record HasFreshKey (first : Connection) (id : ℕ) (events : List Event) (key : Option (List ℕ)) (shown_at : Option ℕ) : Type 0 where
  pub octets : List ℕ
  pub has_key : key ≡ Some octets
  pub moment : ℕ
  pub was_shown : shown_at ≡ Some moment
  pub log_in : IsFreshLogIn first id events octets moment

-- after that exchange, with this start and these replies, one of the events brings the connection a token: an AP-REP that is encrypted
-- under this key, and has the time of an authenticator of this moment, by the values of both its fields (RFC 4120, section 3.2.5)
pub record IsAnswered (id : ℕ) (start : Event) (arrivals : List Arrival) (events : List Event) (key : List ℕ) (moment : ℕ) : Type 0 where
  pub earlier : List Event
  pub event : Event
  pub later : List Event
  pub are : events ≡ earlier ++ (event ∷ later)
  pub behind : IsExchange id start arrivals earlier
  pub is_for : is_heard id event ≡ true
  pub token : List ℕ
  pub brings : event.input ≡ Token token
  pub message : ApRep
  pub is_message : IsApRep (is_bare event.flags) token message
  pub suite : CipherSuite
  pub part : EncApRepPart
  pub opened : OpensApRep suite key message (Ok part)
  pub time : is_time_of part moment ≡ true

-- the exchange with the service is over: the session key is fresh, and if its start asked for mutual authentication, and the rules
-- demand an answer to the initiator's own authenticator, such an AP-REP came
pub record IsEstablished (first : Connection) (id : ℕ) (events : List Event) (key : Option (List ℕ)) (shown_at : Option ℕ) : Type 0 where
  pub fresh : HasFreshKey first id events key shown_at
  pub answered : has_rule first.context.rules answers_its_authenticator ≡ true → has_flag fresh.log_in.start.flags.0 mutual_auth ≡ true
      → IsAnswered id fresh.log_in.start fresh.log_in.arrivals events fresh.octets fresh.moment

-- an initiator that is to begin: it has no session key, awaits no KDC, and takes only replies to its own requests
pub record IsToBegin (connection : Connection) : Type 0 where
  pub role : connection.context.server ≡ None
  pub state : is_before connection.context.state ≡ true
  pub key : connection.context.encryption_params.session_key ≡ None
  pub free : connection.exchange ≡ None
  pub fresh : has_rule connection.context.rules fresh_replies ≡ true
