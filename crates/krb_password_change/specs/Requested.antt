-- The request for a new password: an AP-REQ, and the password encrypted under a key that is drawn for it (RFC 3244, section 2).
use Rattle.std.specs.Prelude.{ℕ, ◌+◌, List, take, drop, Some, None}
use Rattle.krb_der.specs.Layout.{spelling}
use Rattle.krb_crypto.specs.Suite.{key_size}
use Rattle.krb_crypto.specs.declared.suite.CipherSuite.{CipherSuite}
use Rattle.krb_messages.specs.declared.authenticator.Authenticator.{Authenticator}
use Rattle.krb_messages.specs.declared.ticket.Ticket.{Ticket}
use Rattle.krb_messages.specs.Layouts.{ap_req_layout, ap_rep_layout}
use Rattle.krb_exchange.specs.declared.kdc_rep.KdcRep.{KdcRep}
use Rattle.krb_exchange.specs.declared.priv_message.KrbPrivMessage.{KrbPrivMessage}
use Rattle.krb_exchange.specs.declared.priv_message.ApMessage.{ApMessage}
use Rattle.krb_exchange.specs.declared.priv_message.ApMessage.TheVariants.{ApReq, ApRep}
use Rattle.krb_exchange.specs.Layouts.{krb_priv_layout}
use Rattle.krb_exchange.specs.PrivMessages.{message_octets}
use Rattle.sspi_core.specs.declared.draw.Draw.{Draw}
use Rattle.sspi_generator.specs.declared.network.NetworkRequest.{NetworkRequest}
use Rattle.krb_as.specs.declared.kdc.Kdc.{Kdc}
use Rattle.krb_as.specs.declared.key.Grant.{Grant}
use Rattle.krb_as.specs.Requests.{request_to}
use Rattle.krb_authenticators.specs.declared.options.EncKey.{EncKey}
use Rattle.krb_authenticators.specs.Authenticators.{authenticator}
use Rattle.krb_authenticators.specs.Passwords.{priv_part, priv_request}
use Rattle.krb_password_change.specs.declared.change.Changer.{Changer}
use Rattle.krb_context.specs.Drawn.{drawn_key}
use Rattle.krb_context.specs.Contexts.{next_number}

abbrev pub first_confounder : CipherSuite → Draw → List ℕ
first_confounder suite draw = take 16 (drop (key_size suite) draw.random)

abbrev pub second_confounder : CipherSuite → Draw → List ℕ
second_confounder suite draw = take 16 (drop (key_size suite + 16) draw.random)

-- the client of the reply, with that number and the drawn key, without a checksum and without bindings
abbrev pub change_authenticator : ℕ → CipherSuite → KdcRep → Draw → Authenticator
change_authenticator number suite rep draw =
    let key : EncKey = record { key_type = suite; key_value = drawn_key suite draw } in
    authenticator rep (Some number) (Some key) None None draw.moment

-- the AP-REQ with this authenticator, and the new password with the same number, from the client's machine
abbrev pub message_by : Changer → CipherSuite → List ℕ → Ticket → Authenticator → Draw → KrbPrivMessage
message_by changer suite key ticket authenticator draw =
    priv_request suite key (first_confounder suite draw) (second_confounder suite draw) ticket authenticator
    (priv_part changer.new_password (next_number changer.number) changer.client.host)

-- the message with the ticket that was granted
abbrev pub change_message : Changer → Grant → Draw → KrbPrivMessage
change_message changer grant draw =
    message_by changer grant.suite grant.key grant.rep.ticket (change_authenticator (next_number changer.number) grant.suite grant.rep draw) draw

-- the octets of a message
abbrev pub ap_spelling : ApMessage → List ℕ
ap_spelling (ApReq request) = spelling ap_req_layout request
ap_spelling (ApRep reply) = spelling ap_rep_layout reply

abbrev pub written : KrbPrivMessage → List ℕ
written message = message_octets (ap_spelling message.ap_message) (spelling krb_priv_layout message.krb_priv)

-- the request to the service
unfoldable pub change_request : Changer → Grant → Kdc → Draw → NetworkRequest
change_request changer grant kdc draw = request_to kdc (written (change_message changer grant draw))
