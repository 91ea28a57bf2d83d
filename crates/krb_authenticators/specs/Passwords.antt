-- The request for a new password (RFC 3244, section 2, with the version and the bare password of the protocol before it), record
-- by record.
use Rattle.std.specs.Prelude.{ℕ, ◌^◌, List, [], ◌∷◌, Bool, ◌&&◌, ◌==◌, length, Option, Some, None}
use Rattle.krb_der.specs.Layout.{spelling}
use Rattle.krb_crypto.specs.Suite.{key_size}
use Rattle.krb_crypto.specs.declared.suite.CipherSuite.{CipherSuite}
use Rattle.krb_messages.specs.declared.encryption.EncryptedData.{EncryptedData}
use Rattle.krb_messages.specs.declared.encryption.EncryptionKey.{EncryptionKey}
use Rattle.krb_messages.specs.declared.ticket.Ticket.{Ticket}
use Rattle.krb_messages.specs.declared.authenticator.Authenticator.{Authenticator}
use Rattle.krb_exchange.specs.declared.krb_priv.KrbPriv.{KrbPriv}
use Rattle.krb_exchange.specs.declared.krb_priv.EncKrbPrivPart.{EncKrbPrivPart}
use Rattle.krb_exchange.specs.declared.priv_message.KrbPrivMessage.{KrbPrivMessage}
use Rattle.krb_exchange.specs.declared.priv_message.ApMessage.{ApMessage}
use Rattle.krb_exchange.specs.declared.priv_message.ApMessage.TheVariants.{ApReq as Request, ApRep as Reply}
use Rattle.krb_messages.specs.Layouts.{ap_req_layout}
use Rattle.krb_exchange.specs.Layouts.{enc_krb_priv_part_layout, krb_priv_layout}
use Rattle.krb_requests.specs.Pieces.{sealed_under, Fits}
use Rattle.krb_authenticators.specs.Authenticators.{number_octets}
use Rattle.krb_authenticators.specs.ApRequests.{ap_req, service_usage}

-- the encrypted part of a KRB-PRIV (RFC 4120, section 5.7.1): the password, its sequence number, and the sender's address of
-- type 20, NetBIOS
abbrev pub priv_part : List ℕ → ℕ → List ℕ → EncKrbPrivPart
priv_part password number address = record {
  user_data = password;
  timestamp = None;
  usec = None;
  seq_number = Some (number_octets number);
  s_address = record { addr_type = 20 ∷ []; address = address };
  r_address = None;
}

-- version 5, message type 21
abbrev pub krb_priv_with : EncryptedData → KrbPriv
krb_priv_with sealed = record { pvno = 5 ∷ []; msg_type = 21 ∷ []; enc_part = sealed }

-- a KRB-PRIV in which this is sealed, with usage 13 (RFC 4120, section 7.5.1)
abbrev pub krb_priv : CipherSuite → List ℕ → List ℕ → EncKrbPrivPart → KrbPriv
krb_priv suite key confounder part = krb_priv_with (sealed_under suite key 13 confounder (spelling enc_krb_priv_part_layout part))

-- the key that the client chose
abbrev pub chosen_key : Option EncryptionKey → List ℕ
chosen_key None = []
chosen_key (Some key) = key.key_value

-- both keys have the length of the suite's
abbrev pub are_sized : CipherSuite → List ℕ → List ℕ → Bool
are_sized suite key subkey = length key == key_size suite && length subkey == key_size suite

-- the AP-REQ without options, and after it the KRB-PRIV under the authenticator's subkey
abbrev pub priv_request : CipherSuite → List ℕ → List ℕ → List ℕ → Ticket → Authenticator → EncKrbPrivPart → KrbPrivMessage
priv_request suite key first second ticket authenticator part = record {
  ap_message = Request (ap_req suite key service_usage first 0 ticket authenticator);
  krb_priv = krb_priv suite (chosen_key authenticator.subkey) second part;
}

-- both messages can be written
abbrev pub FitsRequest : ApMessage → Type 0
FitsRequest (Request request) = Fits ap_req_layout (2 ^ 28) request
FitsRequest (Reply reply) = ⊥

pub record FitsPriv (message : KrbPrivMessage) : Type 0 where
  pub request : FitsRequest message.ap_message
  pub sealed : Fits krb_priv_layout (2 ^ 28) message.krb_priv
