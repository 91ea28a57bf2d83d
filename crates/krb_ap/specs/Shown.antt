-- The AP-REQ of an initiator to a service, with the ticket that a KDC gave (RFC 4120, sections 3.2.2 and 5.5.1; RFC 4121,
-- section 4.1).
use Rattle.std.specs.Prelude.{ℕ, ◌+◌, ◌^◌, ◌<◌, ◌≤◌, ◌==◌, List, [], ◌∷◌, ◌++◌, length, take, drop, Option, Some, None, IfSome, Result, if◌then◌else◌}
use Rattle.bitflags.specs.Sets.{without}
use Rattle.krb_der.specs.Der.{tlv}
use Rattle.krb_der.specs.Layout.{spelling}
use Rattle.krb_crypto.specs.Suite.{key_size}
use Rattle.krb_crypto.specs.declared.suite.CipherSuite.{CipherSuite}
use Rattle.krb_messages.specs.Layouts.{ap_req_layout}
use Rattle.krb_messages.specs.declared.authenticator.Authenticator.{Authenticator}
use Rattle.krb_messages.specs.declared.ap_req.ApReq.{ApReq}
use Rattle.krb_exchange.specs.declared.kdc_rep.KdcRep.{KdcRep}
use Rattle.krb_context.specs.Options.{gss_deleg, gss_flags_of, ap_options_of}
use Rattle.krb_context.specs.declared.context.ContextChange.{ContextChange}
use Rattle.krb_context.specs.declared.state.KerberosState.{KerberosState}
use Rattle.krb_context.specs.declared.state.KerberosState.TheVariants.{ApExchange, Final}
use Rattle.sspi_core.specs.declared.results.SecurityStatus.{SecurityStatus}
use Rattle.sspi_core.specs.declared.results.SecurityStatus.TheVariants.{Ok as Complete, ContinueNeeded}
use Rattle.sspi_core.specs.declared.draw.Draw.{Draw}
use Rattle.sspi_core.specs.declared.cause.Cause.{Cause}
use Rattle.sspi_core.specs.declared.cause.Cause.TheVariants.{KeyLength}
use Rattle.sspi_core.specs.Checks.{Gives, Holds, ◌>>◌}
use Rattle.krb_authenticators.specs.declared.options.ChecksumOptions.{ChecksumOptions}
use Rattle.krb_authenticators.specs.declared.options.EncKey.{EncKey}
use Rattle.krb_authenticators.specs.Bindings.{AreShortBindings}
use Rattle.krb_authenticators.specs.Checksums.{default_value, with_flags}
use Rattle.krb_authenticators.specs.Authenticators.{authenticator}
use Rattle.krb_authenticators.specs.ApRequests.{ap_req, service_usage}
use Rattle.krb_as.specs.declared.done.InitDone.{InitDone}
use Rattle.krb_ap.specs.Initiators.{is_bare, exchange_flags, settled_number, is_one_way, keeps_subkey}
use Rattle.krb_ap.specs.declared.initiator.Initiator.{Initiator}
use Rattle.krb_ap.specs.declared.errand.Errand.{Errand}
use Rattle.krb_context.specs.Drawn.{drawn_key}
use Rattle.krb_context.specs.Contexts.{next_number}

abbrev pub drawn_confounder : CipherSuite → Draw → List ℕ
drawn_confounder suite draw = take 16 (drop (key_size suite) draw.random)

-- a checksum of type 8003 hex with the flags of the context, but without GSS_C_DELEG_FLAG, which a KRB-CRED would follow (RFC 4121,
-- section 4.1.1)
abbrev pub gss_checksum : ℕ → ChecksumOptions
gss_checksum flags = record {
  checksum_type = 0x00 ∷ 0x80 ∷ 0x03 ∷ [];
  checksum_value = with_flags default_value (without 32 (gss_flags_of flags) gss_deleg);
}

-- the client of the reply, with the sequence number after the context's, the drawn subkey, that checksum and the bindings
abbrev pub service_authenticator : Errand → CipherSuite → KdcRep → Draw → Authenticator
service_authenticator errand suite rep draw =
    let key : EncKey = record { key_type = suite; key_value = drawn_key suite draw } in
    authenticator rep (Some (next_number errand.initiator.number)) (Some key) (Some (gss_checksum errand.initiator.flags.0)) errand.bindings draw.moment

-- the AP-REQ, with the options of the exchange: its authenticator is encrypted under the session key of its ticket
abbrev pub service_request : Errand → CipherSuite → List ℕ → KdcRep → Draw → ApReq
service_request errand suite key rep draw =
    ap_req suite key service_usage (drawn_confounder suite draw) (ap_options_of (exchange_flags errand.initiator)) rep.ticket
    (service_authenticator errand suite rep draw)

-- the octets of the AP-REQ
unfoldable pub message : Errand → CipherSuite → List ℕ → KdcRep → Draw → List ℕ
message errand suite key rep draw = spelling ap_req_layout (service_request errand suite key rep draw)

-- the AP-REQ in a frame (RFC 2743, section 3.1; RFC 4121, section 4.1): the token id 01 00
unfoldable pub framed_ap_req : List ℕ → List ℕ → List ℕ
framed_ap_req mechanism octets = tlv 0x60 (tlv 0x06 mechanism ++ (1 ∷ 0 ∷ [] ++ octets))

-- the token: bare in DCE style (MS-KILE, section 3.4.5.1), otherwise framed
abbrev pub shown_token : Errand → List ℕ → List ℕ
shown_token errand octets = if is_bare errand.initiator.flags then octets else framed_ap_req errand.mechanism octets

-- the subkey of the context, which is the authenticator's if that is kept
abbrev pub kept_subkey : Initiator → CipherSuite → Draw → Option (List ℕ)
kept_subkey initiator suite draw = if keeps_subkey initiator then Some (drawn_key suite draw) else initiator.params.sub_session_key

-- after the token the service's answer is awaited, or the context is established at once
abbrev pub shown_state : Initiator → KerberosState
shown_state initiator = if is_one_way initiator then Final else ApExchange

abbrev pub shown_number : Initiator → ℕ
shown_number initiator = if is_one_way initiator then settled_number initiator else initiator.number

abbrev pub shown_status : Initiator → SecurityStatus
shown_status initiator = if is_one_way initiator then Complete else ContinueNeeded

-- the session key of the ticket is the context's, in the suite of the exchange, and the context's realm is the client's own; the
-- rest of the context stays
abbrev pub change_of : Initiator → CipherSuite → List ℕ → List ℕ → Draw → ContextChange
change_of initiator suite key home draw = record {
  state = shown_state initiator;
  realm = Some home;
  encryption_params = record initiator.params {
    encryption_type = Some suite;
    session_key = Some key;
    sub_session_key = kept_subkey initiator suite draw;
  };
  seq_number = shown_number initiator;
  krb5_user_to_user = initiator.user_to_user;
  asked_at = Some draw.moment;
  ticket_decryption_key = None;
}

unfoldable pub shown : Errand → CipherSuite → List ℕ → KdcRep → List ℕ → Draw → InitDone
shown errand suite key rep home draw = record {
  status = shown_status errand.initiator;
  token = shown_token errand (message errand suite key rep draw);
  change = change_of errand.initiator suite key home draw;
}

-- the key has its length, and the ticket is shown
unfoldable pub ShowsTicket : Errand → CipherSuite → List ℕ → KdcRep → List ℕ → Draw → Result InitDone Cause → Type 0
ShowsTicket errand suite key rep home draw = do
  Holds KeyLength (length key == key_size suite)
  Gives (shown errand suite key rep home draw)

-- bindings and the mechanism's name are no longer than any argument is
pub record CanGo (errand : Errand) : Type 0 where
  pub bindings : IfSome errand.bindings AreShortBindings
  pub named : 0 < length errand.mechanism
  pub mechanism : length errand.mechanism ≤ 2 ^ 24
