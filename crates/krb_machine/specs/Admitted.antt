-- The events that admit their peer, and the replies to them (RFC 4120, sections 3.2.3 and 3.2.4). Nothing here decrypts.
use Rattle.std.specs.Prelude.{◌≡◌, ◌≤◌, ◌^◌, ℕ, Bool, true, List, [], length, Option, Some, Ok, if◌then◌else◌}
use Rattle.std.specs.Ordering.{nat_cmp}
use Rattle.std.specs.BTreeMap.{is_at}
use Rattle.std.specs.Map.{set_value}
use Rattle.krb_der.specs.Layout.{Layout}
use Rattle.krb_crypto.specs.Suite.{key_size}
use Rattle.krb_crypto.specs.Sealed.{IsSealed}
use Rattle.krb_crypto.specs.declared.suite.CipherSuite.{CipherSuite}
use Rattle.krb_messages.specs.Layouts.{enc_ticket_part_layout, authenticator_layout}
use Rattle.krb_messages.specs.declared.encryption.EncryptedData.{EncryptedData}
use Rattle.krb_context.specs.ServiceKeys.{service_key}
use Rattle.krb_context.specs.States.{is_waiting}
use Rattle.krb_context.specs.declared.context.Kerberos.{Kerberos}
use Rattle.krb_context.specs.declared.rules.Rules.{Rules}
use Rattle.krb_context.specs.declared.server.ServerProperties.{ServerProperties}
use Rattle.krb_replay.specs.History.{History, verdict_of, history_after}
use Rattle.krb_replay.specs.declared.ask.Verdict.TheVariants.{Admitted}
use Rattle.krb_replies.specs.Unseals.{suite_of_integer, IsRead}
use Rattle.krb_admission.specs.Accepts.{asks_dce_style}
use Rattle.krb_admission.specs.Admission.{reply_message, token_with, state_behind, status_in, admission_of, settled}
use Rattle.krb_admission.specs.declared.admission.Admission.{Admission}
use Rattle.krb_admission.specs.Allowed.{channel_held, is_validated, is_transit_checked, tells_bindings, is_bound}
use Rattle.krb_admission.specs.Clients.{is_known_client, user_of}
use Rattle.krb_admission.specs.Complete.{is_known_options, is_mutual, has_good_subkey}
use Rattle.krb_admission.specs.Requests.{is_same_client, ask_of}
use Rattle.krb_admission.specs.Tokens.{IsApReq}
use Rattle.krb_admission.specs.declared.request.Request.{Request}
use Rattle.krb_script.specs.Script.{at_id}
use Rattle.krb_script.specs.declared.item.Event.{Event}
use Rattle.krb_machine.specs.Policy.{State, reached, server_flags, draw_of}
use Rattle.krb_machine.specs.declared.connection.Connection.{Connection}
use Rattle.krb_machine.specs.declared.reply.Reply.{Reply}
use Rattle.krb_machine.specs.declared.reply.Reply.TheVariants.{Done}
use Rattle.sspi_core.specs.Usernames.{UserName}
use Rattle.sspi_core.specs.declared.draw.Draw.{Draw}
use Rattle.sspi_core.specs.declared.results.SecurityStatus.TheVariants.{Ok as Complete}

-- a cipher is the encryption of this record, under this key, for this use, in the suite that its type names
pub record IsEncryptionOf {A : Type 0} (layout : Layout A) (suite : CipherSuite) (key : List ℕ) (usage : ℕ) (value : A) (part : EncryptedData) : Type 0 where
  pub suite_is : suite_of_integer part.etype ≡ Some suite
  pub key_fits : length key ≡ key_size suite
  pub plain : List ℕ
  pub read : IsRead layout plain value
  pub sealed : IsSealed suite key usage part.cipher plain

-- a token is an AP-REQ: its ticket is encrypted under the key of the service that it names, with usage 2, its authenticator under the
-- key inside the ticket, with usage 11, and both name one client. By a rule the type of its name is a hint (RFC 4120, section 6.2)
pub record IsGenuine (rules : Rules) (server : ServerProperties) (dce : Bool) (token : List ℕ) (request : Request) : Type 0 where
  pub short : length token ≤ 2 ^ 24
  pub is_ap_req : IsApReq dce token request.message
  pub key : List ℕ
  pub has_key : service_key server request.message.ticket.sname.name_string ≡ Some key
  pub ticket_suite : CipherSuite
  pub ticket : IsEncryptionOf enc_ticket_part_layout ticket_suite key 2 request.part request.message.ticket.enc_part
  pub authenticator : IsEncryptionOf authenticator_layout request.suite request.part.key.key_value 11 request.authenticator request.message.authenticator
  pub same_client : is_same_client rules request.part request.authenticator ≡ true

-- the ticket and its authenticator meet the rules of the context. Each field demands something only by a rule, and of bindings only
-- if the context has those of its channel
pub record IsAllowed (context : Kerberos) (request : Request) : Type 0 where
  -- the ticket is not INVALID (RFC 4120, section 3.2.3)
  pub validated : is_validated context.rules request.part ≡ true
  -- the ticket came through no further realms, or a KDC checked them (RFC 4120, section 2.7)
  pub transit : is_transit_checked context.rules request.part ≡ true
  -- the checksum of the authenticator states the bindings of its client's channel (RFC 4121, section 4.1.1)
  pub told : tells_bindings (channel_held context) request.authenticator.cksum ≡ true
  -- the bindings are those of this channel (RFC 4121, section 4.1.1.2)
  pub bound : is_bound (channel_held context) request.authenticator.cksum ≡ true

-- each connection of a service follows these rules
abbrev pub GoBy : {G : Type 0} → Rules → State G → Type 0
GoBy rules state = (id : ℕ) (connection : Connection) → at_id id state.connections ≡ Some connection → connection.context.rules ≡ rules

-- the client of a request is known here: by a user name, or by a rule with any name that has a component (RFC 4120, section 6.2).
-- The options of the request are known, and a subkey that is to be used fits its type
pub record IsInOrder (rules : Rules) (request : Request) : Type 0 where
  pub known : is_known_client rules request.authenticator.cname request.authenticator.crealm ≡ true
  pub options : is_known_options request.message.ap_options ≡ true
  pub subkey : has_good_subkey request ≡ true

-- an event is to be admitted: its token passes the first checks and is for an acceptor that waits for one, the token is a genuine
-- AP-REQ, the rules allow it, the gate that never forgets says Admitted, and the request is in order
pub record IsAdmissible (skew : ℕ) (state : State History) (event : Event) : Type 0 where
  pub connection : Connection
  pub token : List ℕ
  pub reaches : reached state.connections event ≡ Ok (connection, token)
  pub waits : is_waiting connection.context.state ≡ true
  pub server : ServerProperties
  pub has : connection.context.server ≡ Some server
  pub request : Request
  pub genuine : IsGenuine connection.context.rules server (asks_dce_style (server_flags event.flags)) token request
  pub allowed : IsAllowed connection.context request
  pub verdict : verdict_of skew state.gate (ask_of connection.context.rules request event.moment) ≡ Admitted
  pub in_order : IsInOrder connection.context.rules request

-- the reply that admits the client: an AP-REP if the request asks for one, otherwise an empty token
abbrev pub admitted_reply : Bool → Bool → ℕ → Draw → Request → Reply
admitted_reply dce user_to_user number draw request =
    if is_mutual request.message.ap_options then Done (status_in (state_behind dce)) (token_with dce user_to_user (reply_message number draw request)) true
    else Done Complete [] true

abbrev pub reply_to : {skew : ℕ} {state : State History} {event : Event} → IsAdmissible skew state event → Reply
reply_to {skew} {state} {event} admissible =
    let context = admissible.connection.context in
    admitted_reply (asks_dce_style (server_flags event.flags)) context.krb5_user_to_user context.seq_number (draw_of event) admissible.request

-- the user name by which the acceptor knows the client, if it has one
abbrev pub user_at : Kerberos → Request → Option UserName
user_at context request = user_of context.rules request.authenticator.cname request.authenticator.crealm

-- the admission: the client, the suite and the keys, the sequence number and the state that the options of the request ask for
abbrev pub admission_to : {skew : ℕ} {state : State History} {event : Event} → IsAdmissible skew state event → Admission
admission_to {skew} {state} {event} admissible =
    let context = admissible.connection.context in
    let request = admissible.request in
    admission_of (asks_dce_style (server_flags event.flags)) context.krb5_user_to_user context.seq_number (draw_of event) request (user_at context request)

-- the service after the event: the client is admitted at the connection, the gate has the record, and all else is unchanged
abbrev pub service_behind : {skew : ℕ} {state : State History} {event : Event} → IsAdmissible skew state event → State History
service_behind {skew} {state} {event} admissible =
    let connection = admissible.connection in record {
      connections =
          set_value (is_at (nat_cmp event.connection)) state.connections (record connection { context = settled connection.context (admission_to admissible) });
      env = state.env;
      gate = history_after skew state.gate (ask_of connection.context.rules admissible.request event.moment);
    }
