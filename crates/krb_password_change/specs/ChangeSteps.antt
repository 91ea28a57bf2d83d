-- How a password is changed, step by step: an AS exchange (RFC 4120, section 3.1), and the request for a new password (RFC 3244,
-- section 2).
use Rattle.std.specs.Prelude.{ℕ, ◌==◌, List, length, Option, Some, None, Result}
use Rattle.krb_crypto.specs.Suite.{key_size}
use Rattle.krb_messages.specs.declared.ap_rep.ApRep.{ApRep as Reply}
use Rattle.krb_exchange.specs.declared.kdc_req.KdcReqBody.{KdcReqBody}
use Rattle.krb_exchange.specs.declared.krb_priv.KrbPriv.{KrbPriv}
use Rattle.krb_exchange.specs.declared.priv_message.ApMessage.{ApMessage}
use Rattle.krb_exchange.specs.declared.priv_message.ApMessage.TheVariants.{ApReq, ApRep}
use Rattle.krb_exchange.specs.PrivMessages.{IsPrivMessage}
use Rattle.krb_context.specs.declared.context.ContextChange.{ContextChange}
use Rattle.sspi_core.specs.declared.protocol.NetworkProtocol.{NetworkProtocol}
use Rattle.sspi_core.specs.declared.draw.Draw.{Draw}
use Rattle.sspi_core.specs.declared.cause.Cause.{Cause}
use Rattle.sspi_core.specs.declared.cause.Cause.TheVariants.{KeyLength, Port, Shape, ResultCode}
use Rattle.sspi_core.specs.Checks.{Finds, Gives, Holds, Takes, ◌>>=◌, ◌>>◌}
use Rattle.sspi_generator.specs.declared.network.NetFault.{NetFault}
use Rattle.krb_as.specs.declared.kdc.Kdc.{Kdc}
use Rattle.krb_as.specs.Replies.{Unwraps}
use Rattle.krb_replies.specs.Answered.{TellsStatus}
use Rattle.krb_as.specs.declared.turn.Turn.{Turn}
use Rattle.krb_as.specs.declared.turn.Turn.TheVariants.{Asks, Ends}
use Rattle.krb_as.specs.declared.client.Client.{Client}
use Rattle.krb_as.specs.declared.body.FirstService.TheVariants.{PasswordChange}
use Rattle.krb_as.specs.declared.key.Grant.{Grant}
use Rattle.krb_as.specs.FirstBodies.{first_body}
use Rattle.krb_password_change.specs.declared.change.Changer.{Changer}
use Rattle.krb_password_change.specs.declared.phase.AnswerLeg.{AnswerLeg}
use Rattle.krb_password_change.specs.declared.phase.ChangePhase.{ChangePhase}
use Rattle.krb_password_change.specs.declared.phase.ChangePhase.TheVariants.{AwaitsAnswer}
use Rattle.krb_password_change.specs.Ports.{password_kdc}
use Rattle.krb_context.specs.Drawn.{drawn_key}
use Rattle.krb_context.specs.Contexts.{next_number}
use Rattle.krb_password_change.specs.Requested.{change_request}

-- the first request: for a ticket to the service that changes passwords
abbrev pub body_of : Client → Draw → KdcReqBody
body_of client draw = first_body client PasswordChange 0 draw

-- the answer to the request that goes out with a ticket: it is encrypted under the drawn key
abbrev pub answer_leg : Grant → Kdc → Draw → AnswerLeg
answer_leg grant kdc draw = record { protocol = kdc.protocol; suite = grant.suite; subkey = drawn_key grant.suite draw; realm = grant.rep.crealm }

-- after the AS exchange, with a ticket whose key has its length: the new password goes to the service next to the KDC
unfoldable pub AsksChange : Changer → Kdc → Draw → Grant → Result (Turn ChangePhase ContextChange) Cause → Type 0
AsksChange changer kdc draw grant = do
  Holds KeyLength (length grant.key == key_size grant.suite)
  service ← Takes Port (password_kdc kdc)
  Gives (Asks (change_request changer grant service draw) (AwaitsAnswer (answer_leg grant service draw)))

-- the KRB-PRIV after an AP-REP, which is not checked
abbrev pub behind_reply : ApMessage → KrbPriv → Option KrbPriv
behind_reply (ApReq request) sealed = None
behind_reply (ApRep reply) sealed = Some sealed

-- the octets are this KRB-PRIV after an AP-REP
pub record IsAnswer (octets : List ℕ) (answer : KrbPriv) : Type 0 where
  pub ap_rep : Reply
  pub read : IsPrivMessage (record { ap_message = ApRep ap_rep; krb_priv = answer }) octets

-- the answer of the service
unfoldable pub ReadsAnswer : NetworkProtocol → Result (List ℕ) NetFault → Result KrbPriv Cause → Type 0
ReadsAnswer protocol reply = do
  octets ← Unwraps protocol reply
  Finds Shape (IsAnswer octets)

-- the context has its realm and its suite, and its sequence number has risen; the rest of it stays
abbrev pub change_of : Changer → AnswerLeg → ContextChange
change_of changer leg = record {
  state = changer.state;
  realm = Some leg.realm;
  encryption_params = record changer.params { encryption_type = Some leg.suite };
  seq_number = next_number changer.number;
  krb5_user_to_user = changer.user_to_user;
  asked_at = changer.asked_at;
  ticket_decryption_key = None;
}

-- the password is changed if the code is 0
unfoldable pub Concludes : Changer → AnswerLeg → ℕ → Result (Turn ChangePhase ContextChange) Cause → Type 0
Concludes changer leg code = do
  Holds (ResultCode code) (code == 0)
  Gives (Ends (change_of changer leg))

-- the answer ends the exchange
unfoldable pub TakesAnswer : Changer → AnswerLeg → Result (List ℕ) NetFault → Result (Turn ChangePhase ContextChange) Cause → Type 0
TakesAnswer changer leg reply = do
  answer ← ReadsAnswer leg.protocol reply
  code ← TellsStatus (Some leg.suite) leg.subkey answer
  Concludes changer leg code
