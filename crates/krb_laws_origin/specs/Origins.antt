-- The origin of the session key of an initiator: replies of KDCs lead to it from the initiator's credentials (RFC 4120, sections 3.1.5
-- and 3.3.4), and events brought these replies.
use Rattle.std.specs.Prelude.{◌≡◌, ℕ, ◌≤◌, ◌==◌, nat_le, Bool, true, false, ◌&&◌, if◌then◌else◌, List, [], ◌∷◌, ◌++◌, length, map, Option, Some, None, Result, Ok}
use Rattle.std.specs.List.{list_all}
use Rattle.std.specs.Option.{option_to_list}
use Rattle.krb_crypto.specs.declared.suite.CipherSuite.{CipherSuite}
use Rattle.krb_exchange.specs.declared.kdc_rep.AsRep.{AsRep}
use Rattle.krb_exchange.specs.declared.kdc_rep.TgsRep.{TgsRep}
use Rattle.sspi_core.specs.declared.identity.CredentialsBuffers.{CredentialsBuffers}
use Rattle.sspi_core.specs.declared.protocol.NetworkProtocol.{NetworkProtocol}
use Rattle.sspi_generator.specs.declared.network.NetFault.{NetFault}
use Rattle.krb_context.specs.Rules.{no_rules}
use Rattle.krb_replies.specs.declared.facts.ReplyFacts.{ReplyFacts}
use Rattle.krb_as.specs.Askers.{default_salt}
use Rattle.krb_as.specs.Replied.{LeavesFirst}
use Rattle.krb_tgs.specs.Chain.{IsChain}
use Rattle.krb_initiator.specs.Came.{AreGranted, GrantsFirst, is_referral}
use Rattle.krb_script.specs.declared.item.Event.{Event}
use Rattle.krb_machine.specs.Exchanges.{answer_of}
use Rattle.sspi_core.specs.Moments.{last_moment}
use Rattle.krb_machine.specs.declared.connection.Connection.{Connection}

-- the event is for the connection with this number, and its moment is in range
abbrev pub is_heard : ℕ → Event → Bool
is_heard id event = (event.connection == id) && nat_le event.moment last_moment

-- the answer of the network that an event brings to the connection: a KDC's reply, or a fault; and the answers of events, in order
abbrev pub answer_to : ℕ → Event → List (Result (List ℕ) NetFault)
answer_to id event = if is_heard id event then option_to_list (answer_of event.input) else []

abbrev pub answers_to : ℕ → List Event → List (Result (List ℕ) NetFault)
answers_to id [] = []
answers_to id (event ∷ events) = answer_to id event ++ answers_to id events

-- replies as the network brings them
abbrev pub handed : List (List ℕ) → List (Result (List ℕ) NetFault)
handed replies = map (λ octets. Ok octets) replies

-- in some stretch of the events the network brings the connection these replies, in their order, and nothing else
pub record AreBrought (id : ℕ) (replies : List (List ℕ)) (events : List Event) : Type 0 where
  pub earlier : List Event
  pub during : List Event
  pub later : List Event
  pub are : events ≡ earlier ++ during ++ later
  pub brought : answers_to id during ≡ handed replies

-- the first reply is an error; it names the salt of the credentials' key, or leaves their own, the domain and then the user
pub record LeavesSalt (credentials : CredentialsBuffers) (error salt : List ℕ) : Type 0 where
  pub protocol : NetworkProtocol
  pub named : LeavesFirst protocol (default_salt credentials) (Ok error) salt

-- replies lead from credentials to a key: an error; an AS-REP, encrypted under the key of the credentials, with the salt that the
-- AS-REP has, otherwise that of the error; and one to ten TGS-REPs, each encrypted under the key that the reply before it brought, all
-- of them referrals but the last. The key is the one that the last brought, and all are of the suite that the AS-REP names
pub record LeadTo (credentials : CredentialsBuffers) (replies : List (List ℕ)) (key : List ℕ) : Type 0 where
  pub error : List ℕ
  pub first : List ℕ
  pub rest : List (List ℕ)
  pub are : replies ≡ error ∷ first ∷ rest
  pub salt : List ℕ
  pub leaves : LeavesSalt credentials error salt
  pub as_rep : AsRep
  pub grants : GrantsFirst (Ok first) as_rep
  pub referrals : List TgsRep
  pub last : TgsRep
  pub granted : AreGranted (handed rest) (referrals ++ last ∷ [])
  pub few : length referrals ≤ 9
  pub are_referrals : list_all is_referral referrals ≡ true
  pub is_service : is_referral last ≡ false
  pub suite : CipherSuite
  pub facts : ReplyFacts
  pub chain : IsChain no_rules credentials salt as_rep (referrals ++ last ∷ []) (record { suite = suite; key = key; facts = facts })

-- this identity has credentials, and replies that these events brought lead from them to the key
pub record HasOrigin (identity : Option CredentialsBuffers) (id : ℕ) (events : List Event) (key : List ℕ) : Type 0 where
  pub credentials : CredentialsBuffers
  pub has : identity ≡ Some credentials
  pub replies : List (List ℕ)
  pub brought : AreBrought id replies events
  pub lead : LeadTo credentials replies key

-- an initiator without a session key that awaits no KDC, and has no rules
pub record IsKeyless (connection : Connection) : Type 0 where
  pub role : connection.context.server ≡ None
  pub none_set : connection.context.rules ≡ no_rules
  pub key : connection.context.encryption_params.session_key ≡ None
  pub free : connection.exchange ≡ None

-- an initiator still, with the same identity
pub record IsSameInitiator (before after : Connection) : Type 0 where
  pub role : after.context.server ≡ None
  pub identity : after.context.auth_identity ≡ before.context.auth_identity
