-- AP-REQs (RFC 4120, section 5.5.1).
use Rattle.std.specs.Prelude.{ℕ, List, [], ◌∷◌}
use Rattle.std.specs.Int.{w32, to_be_bytes}
use Rattle.krb_der.specs.Layout.{spelling}
use Rattle.krb_crypto.specs.declared.suite.CipherSuite.{CipherSuite}
use Rattle.krb_messages.specs.declared.encryption.EncryptedData.{EncryptedData}
use Rattle.krb_messages.specs.declared.ticket.Ticket.{Ticket}
use Rattle.krb_messages.specs.declared.authenticator.Authenticator.{Authenticator}
use Rattle.krb_messages.specs.declared.ap_req.ApReq.{ApReq}
use Rattle.krb_messages.specs.Layouts.{authenticator_layout}
use Rattle.krb_requests.specs.Pieces.{sealed_under}

-- version 5, message type 14, and the options in four octets
abbrev pub ap_req_with : ℕ → Ticket → EncryptedData → ApReq
ap_req_with options ticket authenticator = record {
  pvno = 5 ∷ [];
  msg_type = 14 ∷ [];
  ap_options = record { unused = 0; octets = to_be_bytes w32 options };
  ticket = ticket;
  authenticator = authenticator;
}

-- an AP-REQ with these options in which the authenticator is sealed under the session key
abbrev pub ap_req : CipherSuite → List ℕ → ℕ → List ℕ → ℕ → Ticket → Authenticator → ApReq
ap_req suite key usage confounder options ticket authenticator =
    ap_req_with options ticket (sealed_under suite key usage confounder (spelling authenticator_layout authenticator))

-- the usages of an authenticator: in a TGS-REQ, and in a request to a service (RFC 4120, section 7.5.1)
abbrev pub tgs_usage : ℕ
tgs_usage = 7

abbrev pub service_usage : ℕ
service_usage = 11
