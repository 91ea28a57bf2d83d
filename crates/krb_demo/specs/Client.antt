-- The client of the demonstration: its ticket and its AP-REQs (RFC 4120, sections 5.3 and 5.5.1).
use Rattle.std.specs.Prelude.{ℕ, ◌+◌, List, [], ◌∷◌, ◌++◌, codes, replicate, Some, None, ℤ, pos}
use Rattle.std.specs.List.{range_with_len}
use Rattle.std.specs.Int.{w32, to_be_bytes}
use Rattle.krb_der.specs.declared.bits.Bits.{Bits}
use Rattle.krb_der.specs.Layout.{spelling}
use Rattle.krb_crypto.specs.Suite.{suite_number}
use Rattle.krb_crypto.specs.SealingPair.{SealingPair, sealing_pair}
use Rattle.krb_crypto.specs.Sealed.{sealed_text}
use Rattle.krb_crypto.specs.declared.suite.CipherSuite.{CipherSuite}
use Rattle.krb_crypto.specs.declared.suite.CipherSuite.TheVariants.{Aes256CtsHmacSha196}
use Rattle.krb_messages.specs.declared.ap_req.ApReq.{ApReq}
use Rattle.krb_messages.specs.declared.authenticator.Authenticator.{Authenticator}
use Rattle.krb_messages.specs.declared.enc_ticket_part.EncTicketPart.{EncTicketPart}
use Rattle.krb_messages.specs.declared.enc_ticket_part.TransitedEncoding.{TransitedEncoding}
use Rattle.krb_messages.specs.declared.encryption.EncryptedData.{EncryptedData}
use Rattle.krb_messages.specs.declared.encryption.EncryptionKey.{EncryptionKey}
use Rattle.krb_messages.specs.declared.principal_name.PrincipalName.{PrincipalName}
use Rattle.krb_messages.specs.declared.ticket.Ticket.{Ticket}
use Rattle.krb_messages.specs.Layouts.{ap_req_layout, authenticator_layout, enc_ticket_part_layout}
use Rattle.krb_messages.specs.Frame.{framed}

-- the protocol's version
abbrev pub version : List ℕ
version = 5 ∷ []

-- the object identifier of Kerberos, 1.2.840.113554.1.2.2, by its contents, and the token id of an AP-REQ (RFC 4121, section 4.1)
abbrev pub mechanism : List ℕ
mechanism = 0x2a ∷ 0x86 ∷ 0x48 ∷ 0x86 ∷ 0xf7 ∷ 0x12 ∷ 0x01 ∷ 0x02 ∷ 0x02 ∷ []

abbrev pub token_id : List ℕ
token_id = 0x01 ∷ 0x00 ∷ []

-- the suite of all keys
abbrev pub suite : CipherSuite
suite = Aes256CtsHmacSha196

-- the service's key, the octets 00 to 1F, and the session key, 20 to 3F
unfoldable pub service_key : List ℕ
service_key = range_with_len 0x00 32

unfoldable pub session_key : List ℕ
session_key = range_with_len 0x20 32

-- when the ticket was given: 14 November 2023, 22:13:20 UTC, in seconds from 1970
abbrev pub start : ℕ
start = 1_700_000_000

abbrev pub realm : List ℕ
realm = codes "EXAMPLE.COM"

-- names of the types principal and service (section 6.2)
abbrev pub client : PrincipalName
client = record { name_type = 1 ∷ []; name_string = codes "alice" ∷ [] }

abbrev pub service : PrincipalName
service = record { name_type = 2 ∷ []; name_string = codes "host" ∷ codes "server.example.com" ∷ [] }

-- a text sealed under these keys, with no key version
abbrev pub encrypted : SealingPair → List ℕ → List ℕ → EncryptedData
encrypted keys confounder plain = record { etype = suite_number suite ∷ []; kvno = None; cipher = sealed_text keys (confounder ++ plain) }

-- flags and options of which none is set
abbrev pub no_options : Bits
no_options = record { unused = 0; octets = replicate 4 0 }

abbrev pub session_encryption_key : EncryptionKey
session_encryption_key = record { key_type = suite_number suite ∷ []; key_value = session_key }

-- no realm lies between the client's and the service's (DOMAIN-X500-COMPRESS, section 3.3.3.2)
abbrev pub no_realms : TransitedEncoding
no_realms = record { tr_type = 1 ∷ []; contents = [] }

-- what the ticket seals: it is valid for ten hours
unfoldable pub ticket_part : EncTicketPart
ticket_part = record {
  flags = no_options;
  key = session_encryption_key;
  crealm = realm;
  cname = client;
  transited = no_realms;
  authtime = pos start;
  starttime = Some (pos start);
  endtime = pos (start + 36_000);
  renew_till = None;
  caddr = None;
  authorization_data = None;
}

-- the keys under which the ticket and the authenticators are sealed, by their usages 2 and 11 (section 7.5.1)
unfoldable pub ticket_keys : SealingPair
ticket_keys = sealing_pair suite service_key 2

unfoldable pub authenticator_keys : SealingPair
authenticator_keys = sealing_pair suite session_key 11

-- the ticket, encrypted after a confounder of zeros
unfoldable pub client_ticket : Ticket
client_ticket = record {
  tkt_vno = version;
  realm = realm;
  sname = service;
  enc_part = encrypted ticket_keys (replicate 16 0) (spelling enc_ticket_part_layout ticket_part);
}

-- the authenticator that the client encrypts at this second and microsecond of its clock
abbrev pub authenticator : ℤ → List ℕ → Authenticator
authenticator ctime cusec = record {
  authenticator_vno = version;
  crealm = realm;
  cname = client;
  cksum = None;
  cusec = cusec;
  ctime = ctime;
  subkey = None;
  seq_number = Some (to_be_bytes w32 42);
  authorization_data = None;
}

-- an AP-REQ (message type 14) that asks for no answer, with this authenticator
abbrev pub ap_req : EncryptedData → ApReq
ap_req authenticator = record {
  pvno = version;
  msg_type = 14 ∷ [];
  ap_options = no_options;
  ticket = client_ticket;
  authenticator = authenticator;
}

-- the authenticator, encrypted after this confounder
unfoldable pub sealed_authenticator : ℤ → List ℕ → List ℕ → EncryptedData
sealed_authenticator ctime cusec confounder =
    encrypted authenticator_keys confounder (spelling authenticator_layout (authenticator ctime cusec))

-- the AP-REQ of this second and microsecond, as a token
unfoldable pub token : ℤ → List ℕ → List ℕ → List ℕ
token ctime cusec confounder =
    framed mechanism token_id (spelling ap_req_layout (ap_req (sealed_authenticator ctime cusec confounder)))
