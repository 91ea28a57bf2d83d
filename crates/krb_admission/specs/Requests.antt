-- An AP-REQ, up to the question to the replay gate (RFC 4120, section 3.2.3).
use Rattle.std.specs.Prelude.{ℕ, ◌-◌, ◌==◌, Bool, ◌&&◌, ◌||◌, List, [], drop, length, Result, unwrap_or, if◌then◌else◌}
use Rattle.std.specs.Cmp.Lexicographic.{pointwise}
use Rattle.krb_messages.specs.declared.ap_req.ApReq.{ApReq}
use Rattle.krb_messages.specs.declared.enc_ticket_part.EncTicketPart.{EncTicketPart}
use Rattle.krb_messages.specs.declared.authenticator.Authenticator.{Authenticator}
use Rattle.krb_messages.specs.Layouts.{enc_ticket_part_layout, authenticator_layout}
use Rattle.krb_crypto.specs.declared.suite.CipherSuite.{CipherSuite}
use Rattle.krb_replay.specs.declared.ask.Ask.{Ask}
use Rattle.krb_context.specs.Rules.{has_rule, names_by_components, records_by_tag}
use Rattle.krb_context.specs.declared.rules.Rules.{Rules}
use Rattle.krb_context.specs.declared.server.ServerProperties.{ServerProperties}
use Rattle.krb_context.specs.ServiceKeys.{service_key}
use Rattle.krb_admission.specs.declared.request.Request.{Request}
use Rattle.krb_replies.specs.Unseals.{OpensData}
use Rattle.krb_admission.specs.Tokens.{ReceivesApReq}
use Rattle.sspi_core.specs.declared.cause.Cause.{Cause}
use Rattle.sspi_core.specs.declared.cause.Cause.TheVariants.{NoServiceKey, Names}
use Rattle.sspi_core.specs.Checks.{Holds, Takes, Gives, ◌>>=◌, ◌>>◌}

-- realm and components are the same, and so is the name's type where it is no mere hint (RFC 4120, section 6.2)
abbrev pub is_same_client : Rules → EncTicketPart → Authenticator → Bool
is_same_client rules part authenticator =
    pointwise ◌==◌ part.crealm authenticator.crealm
    && ((has_rule rules names_by_components || pointwise ◌==◌ part.cname.name_type authenticator.cname.name_type)
    && pointwise (pointwise ◌==◌) part.cname.name_string authenticator.cname.name_string)

-- what is sealed in the ticket, under the key of the service that the ticket names in the clear, with usage 2 (RFC 4120,
-- section 7.5.1)
unfoldable pub OpensTicket : ServerProperties → ApReq → Result EncTicketPart Cause → Type 0
OpensTicket server message = do
  key ← Takes NoServiceKey (service_key server message.ticket.sname.name_string)
  ticket ← OpensData enc_ticket_part_layout key 2 message.ticket.enc_part
  Gives ticket.1

-- the authenticator, under the key inside the ticket, with usage 11 (RFC 4120, section 7.5.1), of the same client
unfoldable pub OpensAuthenticator : Rules → ApReq → EncTicketPart → Result (CipherSuite × Authenticator) Cause → Type 0
OpensAuthenticator rules message part = do
  sealed ← OpensData authenticator_layout part.key.key_value 11 message.authenticator
  Holds Names (is_same_client rules part sealed.1)
  Gives sealed

-- the AP-REQ in a token, with what is sealed in it
unfoldable pub Requests : Rules → ServerProperties → Bool → List ℕ → Result Request Cause → Type 0
Requests rules server dce token = do
  message ← ReceivesApReq dce token
  part ← OpensTicket server message
  sealed ← OpensAuthenticator rules message part
  Gives (record { message = message; part = part; suite = sealed.0; authenticator = sealed.1 })

-- the last twelve octets of the sealed authenticator, its checksum (RFC 3962, section 6)
abbrev pub tag_of : Request → List ℕ
tag_of request = drop (length request.message.authenticator.cipher - 12) request.message.authenticator.cipher

-- the tag that a record has
abbrev pub record_tag : Rules → Request → List ℕ
record_tag rules request = if has_rule rules records_by_tag then tag_of request else []

-- the question to the gate: the authenticator's record, the service's clear name, and when the ticket may be used
abbrev pub ask_of : Rules → Request → ℕ → Ask
ask_of rules request moment = record {
  entry = record {
    ctime = request.authenticator.ctime;
    cusec = request.authenticator.cusec;
    realm = request.authenticator.crealm;
    name = request.authenticator.cname;
    tag = record_tag rules request;
  };
  sname = request.message.ticket.sname;
  start = unwrap_or request.part.starttime request.part.authtime;
  end = request.part.endtime;
  moment = moment;
}
