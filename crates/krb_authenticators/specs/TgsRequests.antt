-- TGS-REQs (RFC 4120, section 5.4.1), record by record.
use Rattle.std.specs.Prelude.{◌≡◌, ℕ, bit_or, ◌^◌, ◌==◌, ◌&&◌, Bool, List, [], ◌∷◌, length, Option, Some, None, IfSome, if◌then◌else◌}
use Rattle.std.specs.Int.{w32, to_be_bytes}
use Rattle.md5.specs.Md5.{md5}
use Rattle.krb_der.specs.Schema.{is_ascii}
use Rattle.krb_der.specs.Layout.{items_layout, spelling}
use Rattle.krb_crypto.specs.Suite.{key_size}
use Rattle.krb_crypto.specs.declared.suite.CipherSuite.{CipherSuite}
use Rattle.krb_messages.specs.declared.encryption.Checksum.{Checksum}
use Rattle.krb_messages.specs.declared.ticket.Ticket.{Ticket}
use Rattle.krb_messages.specs.declared.authenticator.Authenticator.{Authenticator}
use Rattle.krb_messages.specs.declared.ap_req.ApReq.{ApReq}
use Rattle.krb_messages.specs.Layouts.{ap_req_layout, ticket_layout}
use Rattle.krb_exchange.specs.declared.pa_data.PaData.{PaData}
use Rattle.krb_exchange.specs.declared.kdc_req.KdcReqBody.{KdcReqBody}
use Rattle.krb_exchange.specs.declared.kdc_req.TgsReq.{TgsReq}
use Rattle.krb_exchange.specs.Layouts.{pa_pac_options_layout, kdc_req_body_layout}
use Rattle.krb_context.specs.Options.{option_of}
use Rattle.sspi_core.specs.Flags as asked
use Rattle.sspi_core.specs.declared.cause.Cause.{Cause}
use Rattle.sspi_core.specs.declared.cause.Cause.TheVariants.{Target, NotAscii, KeyLength}
use Rattle.krb_requests.specs.Pieces.{principal, three_days_after, etypes, Fits}
use Rattle.krb_authenticators.specs.ApRequests.{ap_req, tgs_usage}

-- RENEWABLE and CANONICALIZE
abbrev pub always : ℕ
always = 0x00810000

-- with DELEGATE also FORWARDABLE, with USE_SESSION_KEY also ENC-TKT-IN-SKEY
abbrev pub tgs_options : ℕ → ℕ
tgs_options flags = bit_or (bit_or always (option_of flags (asked.delegate, 0x40000000))) (option_of flags (asked.use_session_key, 0x00000008))

-- the body: a request for a ticket for this service on this host, in this realm
abbrev pub tgs_body : List ℕ → List ℕ → List ℕ → Option (List Ticket) → ℕ → ℕ → List ℕ → KdcReqBody
tgs_body realm service host tickets flags moment nonce = record {
  kdc_options = record { unused = 0; octets = to_be_bytes w32 (tgs_options flags) };
  cname = None;
  realm = realm;
  sname = Some (principal 2 (service ∷ host ∷ []));
  from = None;
  till = three_days_after moment;
  rtime = None;
  nonce = nonce;
  etype = etypes;
  addresses = None;
  enc_authorization_data = None;
  additional_tickets = tickets;
}

-- the checksum of a body: MD5 without a key, type 7 (RFC 3961, sections 6.1.1 and 8)
abbrev pub body_checksum : KdcReqBody → Checksum
body_checksum body = record { cksumtype = 7 ∷ []; checksum = md5 (spelling kdc_req_body_layout body) }

-- an authenticator over this body
abbrev pub over : KdcReqBody → Authenticator → Authenticator
over body authenticator = record authenticator { cksum = Some (body_checksum body) }

-- PA-TGS-REQ, type 1 (RFC 4120, section 5.2.7.1)
abbrev pub pa_tgs_req : ApReq → PaData
pa_tgs_req request = record { padata_type = 1 ∷ []; padata_value = spelling ap_req_layout request }

-- PA-PAC-OPTIONS, type 167, with the option of branch awareness (MS-KILE, section 2.2.10)
abbrev pub pac_options : PaData
pac_options = record {
  padata_type = 0x00 ∷ 0xa7 ∷ [];
  padata_value = spelling pa_pac_options_layout (record { flags = record { unused = 0; octets = 0x40 ∷ 0x00 ∷ 0x00 ∷ 0x00 ∷ [] } });
}

-- version 5, message type 12
abbrev pub tgs_req_with : KdcReqBody → ApReq → TgsReq
tgs_req_with body request = record {
  0 = record {
    pvno = 5 ∷ [];
    msg_type = 12 ∷ [];
    padata = Some (pa_tgs_req request ∷ pac_options ∷ []);
    req_body = body;
  };
}

-- a TGS-REQ whose authenticator, sealed under the session key, is over its body
abbrev pub tgs_req : CipherSuite → List ℕ → List ℕ → Ticket → Authenticator → KdcReqBody → TgsReq
tgs_req suite key confounder ticket authenticator body = tgs_req_with body (ap_req suite key tgs_usage confounder 0 ticket (over body authenticator))

-- names that can be sent
abbrev pub is_askable : List ℕ → List ℕ → List ℕ → Bool
is_askable realm service host = is_ascii realm && (is_ascii service && is_ascii host)

-- the reason why a request for this service and host is refused
abbrev pub refusal_of : List ℕ → List ℕ → List ℕ → CipherSuite → List ℕ → Option Cause
refusal_of realm service host suite key =
    if is_askable realm service host then (if length key == key_size suite then None else Some KeyLength) else Some NotAscii

-- the reason why a request is refused: there is no target, or one of the names is not ASCII, or the session key does not have the
-- length of the suite's keys; the first of these that holds
abbrev pub tgs_refusal : List ℕ → Option (List ℕ × List ℕ) → CipherSuite → List ℕ → Option Cause
tgs_refusal realm None suite key = Some Target
tgs_refusal realm (Some target) suite key = refusal_of realm target.0 target.1 suite key

-- the request for a target, if there is one
abbrev pub IsTgsReq : CipherSuite → List ℕ → List ℕ → Ticket → Authenticator → (List ℕ → List ℕ → KdcReqBody) → Option (List ℕ × List ℕ) → TgsReq → Type 0
IsTgsReq suite key confounder ticket authenticator body None made = ⊥
IsTgsReq suite key confounder ticket authenticator body (Some target) made = made ≡ tgs_req suite key confounder ticket authenticator (body target.0 target.1)

-- tickets that can be written
abbrev pub AreShortTickets : Option (List Ticket) → Type 0
AreShortTickets tickets = IfSome tickets (Fits (items_layout ticket_layout) (2 ^ 24))
