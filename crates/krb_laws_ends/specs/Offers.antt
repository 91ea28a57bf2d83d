-- The ticket of an honest KDC, and the AP-REQ that an initiator makes of it (RFC 4120, sections 3.1.3, 3.2.2 and 5.5.1).
use Rattle.std.specs.Prelude.{◌≡◌, ℕ, ◌^◌, ◌<◌, ◌≤◌, Bool, List, ◌++◌, length, true, Option, Some, None, option_map, if◌then◌else◌}
use Rattle.krb_aes.specs.Octets.{IsOctets}
use Rattle.krb_der.specs.Layout.{Layout, spelling}
use Rattle.krb_der.specs.Schema.{IsSound}
use Rattle.krb_crypto.specs.Suite.{key_size}
use Rattle.krb_crypto.specs.Sealed.{IsSealed}
use Rattle.krb_crypto.specs.declared.suite.CipherSuite.{CipherSuite}
use Rattle.krb_messages.specs.declared.ap_req.ApReq.{ApReq}
use Rattle.krb_messages.specs.declared.authenticator.Authenticator.{Authenticator}
use Rattle.krb_messages.specs.declared.enc_ticket_part.EncTicketPart.{EncTicketPart}
use Rattle.krb_messages.specs.declared.encryption.Checksum.{Checksum}
use Rattle.krb_messages.specs.declared.ticket.Ticket.{Ticket}
use Rattle.krb_messages.specs.Layouts.{ap_req_layout, authenticator_layout, enc_ticket_part_layout, ticket_layout}
use Rattle.krb_context.specs.declared.context.Kerberos.{Kerberos}
use Rattle.krb_context.specs.declared.rules.Rules.{Rules}
use Rattle.krb_context.specs.declared.server.ServerProperties.{ServerProperties}
use Rattle.krb_context.specs.ServiceKeys.{service_key}
use Rattle.krb_context.specs.States.{is_waiting}
use Rattle.krb_replies.specs.Unseals.{suite_of_integer, IsRead}
use Rattle.krb_authenticators.specs.ApRequests.{ap_req, service_usage}
use Rattle.krb_authenticators.specs.Bindings.{bindings_hash}
use Rattle.krb_ap.specs.Shown.{framed_ap_req}
use Rattle.krb_admission.specs.declared.request.Request.{Request}
use Rattle.krb_admission.specs.Allowed.{is_validated, is_transit_checked, channel_held, tells_bindings, is_bound}
use Rattle.krb_admission.specs.Clients.{is_known_client, user_of}
use Rattle.krb_admission.specs.Complete.{is_known_options, is_mutual}
use Rattle.sspi_core.specs.declared.bindings.ChannelBindings.{ChannelBindings}
use Rattle.sspi_core.specs.Usernames.{UserName}

-- a record is sealed in a text
pub record Carries {A : Type 0} (layout : Layout A) (suite : CipherSuite) (key : List ℕ) (usage : ℕ) (text : List ℕ) (value : A) : Type 0 where
  pub plain : List ℕ
  pub sealed : IsSealed suite key usage text plain
  pub read : IsRead layout plain value

-- a service ticket: sealed in this suite under the service's key, with usage 2 (RFC 4120, section 7.5.1), and a session key of the
-- same suite in it
pub record IsServiceTicket (suite : CipherSuite) (key : List ℕ) (ticket : Ticket) (part : EncTicketPart) : Type 0 where
  pub etype : suite_of_integer ticket.enc_part.etype ≡ Some suite
  pub key_fits : length key ≡ key_size suite
  pub carries : Carries enc_ticket_part_layout suite key 2 ticket.enc_part.cipher part
  pub session_key_fits : length part.key.key_value ≡ key_size suite

-- the values that an initiator has, and those that it chooses: its ticket with the part that is sealed there, whether tokens are bare
-- or have the mechanism's name, the options, the authenticator and the confounder
pub record Offer : Type 0 where
  pub suite : CipherSuite
  pub ticket : Ticket
  pub part : EncTicketPart
  pub dce : Bool
  pub mechanism : List ℕ
  pub options : ℕ
  pub authenticator : Authenticator
  pub confounder : List ℕ

-- the AP-REQ: the authenticator is sealed under the session key of the ticket
abbrev pub message_of : Offer → ApReq
message_of offer = ap_req offer.suite offer.part.key.key_value service_usage offer.confounder offer.options offer.ticket offer.authenticator

-- its octets
unfoldable pub octets_of : Offer → List ℕ
octets_of offer = spelling ap_req_layout (message_of offer)

-- the token that carries it: bare in DCE style (MS-KILE, section 3.4.5.1), otherwise framed
abbrev pub offered_token : Offer → List ℕ
offered_token offer = if offer.dce then octets_of offer else framed_ap_req offer.mechanism (octets_of offer)

-- what an acceptor finds in it
abbrev pub request_of : Offer → Request
request_of offer = record { message = message_of offer; part = offer.part; suite = offer.suite; authenticator = offer.authenticator }

-- an honest offer to a service with this key: the ticket is for it, the authenticator speaks for the ticket's client, mutual
-- authentication is asked for and no option that is not known, and all can be written, in at most 2^24 octets, the microseconds in four
-- (RFC 4120, section 5.2.4)
pub record IsHonest (key : List ℕ) (offer : Offer) : Type 0 where
  pub ticket : IsServiceTicket offer.suite key offer.ticket offer.part
  pub same_realm : offer.authenticator.crealm ≡ offer.part.crealm
  pub same_name : offer.authenticator.cname ≡ offer.part.cname
  pub known : is_known_options (message_of offer).ap_options ≡ true
  pub mutual_asked : is_mutual (message_of offer).ap_options ≡ true
  pub ticket_sound : IsSound ticket_layout.kind (ticket_layout.view offer.ticket)
  pub authenticator_sound : IsSound authenticator_layout.kind (authenticator_layout.view offer.authenticator)
  pub confounder_size : length offer.confounder ≡ 16
  pub octets : IsOctets (offer.confounder ++ spelling authenticator_layout offer.authenticator)
  pub named : 0 < length offer.mechanism
  pub microseconds_short : length offer.authenticator.cusec ≤ 4
  pub short : length (offered_token offer) ≤ 2 ^ 24

-- what an acceptor's rules ask of a ticket: it is valid (RFC 4120, section 3.2.3), a KDC checked the realms that it came through (section
-- 2.7), and its client has a name that is known (section 6.2)
pub record FitsRules (rules : Rules) (part : EncTicketPart) : Type 0 where
  pub validated : is_validated rules part ≡ true
  pub transit_checked : is_transit_checked rules part ≡ true
  pub known : is_known_client rules part.cname part.crealm ≡ true

-- the checksum of a client that is held to a channel: it has bindings, and they are those of the channel (RFC 4121, section 4.1.1)
pub record IsBoundTo (held : Option (List ℕ)) (checksum : Option Checksum) : Type 0 where
  pub tells : tells_bindings held checksum ≡ true
  pub same : is_bound held checksum ≡ true

-- an initiator has the bindings of the channel that its acceptor holds it to, where it holds it to one
abbrev pub MeetsChannel : Option (List ℕ) → Option ChannelBindings → Type 0
MeetsChannel None bindings = Unit {0}
MeetsChannel (Some hash) bindings = option_map bindings_hash bindings ≡ Some hash

-- an acceptor that waits for a token, and holds the key of the service that an honest offer names. What its rules ask of the ticket and of
-- the channel holds, and this is the user name that it has of the client
pub record IsFor (server : Kerberos) (client : Option UserName) (offer : Offer) : Type 0 where
  pub waits : is_waiting server.state ≡ true
  pub properties : ServerProperties
  pub has : server.server ≡ Some properties
  pub key : List ℕ
  pub holds : service_key properties offer.ticket.sname.name_string ≡ Some key
  pub honest : IsHonest key offer
  pub fits : FitsRules server.rules offer.part
  pub bound : IsBoundTo (channel_held server) offer.authenticator.cksum
  pub client_is : user_of server.rules offer.part.cname offer.part.crealm ≡ client
