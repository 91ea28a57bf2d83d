-- The result of an admission (RFC 4120, sections 3.2.4 and 3.2.5).
use Rattle.std.specs.Prelude.{◌≡◌, ℕ, ◌+◌, ◌-◌, ◌%◌, ◌^◌, ◌<◌, ◌≤◌, ℤ, length, Bool, true, false, List, [], ◌∷◌}
use Rattle.std.specs.Prelude.{◌++◌, take, drop, Option, Some, None, option_map, unwrap_or, if◌then◌else◌}
use Rattle.std.specs.Int.{w32, to_be_bytes}
use Rattle.krb_der.specs.Der.{tlv}
use Rattle.krb_der.specs.Reading.{number_of}
use Rattle.krb_der.specs.Schema.{tag_of, contents, IsComplete}
use Rattle.krb_der.specs.Layout.{spelling}
use Rattle.krb_crypto.specs.Suite.{key_size, suite_number}
use Rattle.krb_crypto.specs.Sealed.{sealed}
use Rattle.krb_crypto.specs.declared.suite.CipherSuite.{CipherSuite}
use Rattle.krb_messages.specs.declared.encryption.EncryptionKey.{EncryptionKey}
use Rattle.krb_messages.specs.declared.ap_rep.ApRep.{ApRep}
use Rattle.krb_messages.specs.declared.ap_rep.EncApRepPart.{EncApRepPart}
use Rattle.krb_messages.specs.Layouts.{ap_rep_layout, enc_ap_rep_part_layout}
use Rattle.krb_messages.specs.Table.{enc_ap_rep_part}
use Rattle.krb_messages.specs.Frame.{framed}
use Rattle.krb_context.specs.declared.context.Kerberos.{Kerberos}
use Rattle.krb_context.specs.declared.server.ServerProperties.{ServerProperties}
use Rattle.krb_context.specs.declared.state.KerberosState.{KerberosState}
use Rattle.krb_context.specs.declared.state.KerberosState.TheVariants.{TgtExchange, Preauthentication, ApExchange, Final}
use Rattle.sspi_core.specs.Usernames.{UserName}
use Rattle.sspi_core.specs.declared.draw.Draw.{Draw}
use Rattle.sspi_core.specs.declared.results.SecurityStatus.{SecurityStatus}
use Rattle.sspi_core.specs.declared.results.SecurityStatus.TheVariants.{Ok as Complete, ContinueNeeded}
use Rattle.krb_admission.specs.declared.request.Request.{Request}
use Rattle.krb_admission.specs.declared.admission.Admission.{Admission}
use Rattle.krb_admission.specs.declared.admission.Answer.{Answer}
use Rattle.krb_replies.specs.Unseals.{suite_of_integer}
use Rattle.krb_admission.specs.Complete.{is_mutual}
use Rattle.krb_context.specs.Drawn.{drawn_key}

-- a key of a suite
abbrev pub key_with : CipherSuite → List ℕ → EncryptionKey
key_with suite key = record { key_type = suite_number suite ∷ []; key_value = key }

-- the encrypted part of an AP-REP (RFC 4120, section 5.5.2)
abbrev pub ap_rep_part : CipherSuite → ℤ → List ℕ → List ℕ → Option (List ℕ) → EncApRepPart
ap_rep_part suite ctime cusec number subkey = record { ctime = ctime; cusec = cusec; subkey = option_map (key_with suite) subkey; seq_number = Some number }

-- an AP-REP with this cipher: version 5, message type 15
abbrev pub ap_rep_with : CipherSuite → List ℕ → ApRep
ap_rep_with suite cipher = record {
  pvno = 5 ∷ [];
  msg_type = 15 ∷ [];
  enc_part = record { etype = suite_number suite ∷ []; kvno = None; cipher = cipher };
}

-- an AP-REP in which this is sealed under the session key, with usage 12 (RFC 4120, section 7.5.1)
abbrev pub ap_rep : CipherSuite → List ℕ → List ℕ → EncApRepPart → ApRep
ap_rep suite key confounder part = ap_rep_with suite (sealed suite key 12 confounder (spelling enc_ap_rep_part_layout part))

abbrev pub drawn_confounder : CipherSuite → Draw → List ℕ
drawn_confounder suite draw = take 16 (drop (key_size suite) draw.random)

-- 1.2.840.113554.1.2.2, the Kerberos mechanism (RFC 4121, section 4.1), by the octets of its contents
abbrev pub kerberos_mechanism : List ℕ
kerberos_mechanism = 0x2a ∷ 0x86 ∷ 0x48 ∷ 0x86 ∷ 0xf7 ∷ 0x12 ∷ 1 ∷ 2 ∷ 2 ∷ []

-- the mechanism that a token names: user-to-user, 1.2.840.113554.1.2.2.3, once a TGT-REQ was taken
abbrev pub mechanism : Bool → List ℕ
mechanism user_to_user = if user_to_user then kerberos_mechanism ++ 3 ∷ [] else kerberos_mechanism

-- the token id before an AP-REP (RFC 4121, section 4.1)
abbrev pub ap_rep_id : List ℕ
ap_rep_id = 2 ∷ 0 ∷ []

-- the number in four octets, the highest first, after the context's own
abbrev pub next_number_octets : ℕ → List ℕ
next_number_octets number = to_be_bytes w32 ((number + 1) % 2 ^ 32)

-- the encrypted part of the AP-REP to a request: its authenticator's time, the drawn subkey, and the number after the context's own
abbrev pub reply_part : ℕ → Draw → Request → EncApRepPart
reply_part number draw request =
    ap_rep_part request.suite request.authenticator.ctime request.authenticator.cusec (next_number_octets number) (Some (drawn_key request.suite draw))

-- the AP-REP to a request
unfoldable pub reply_message : ℕ → Draw → Request → List ℕ
reply_message number draw request =
    spelling ap_rep_layout (ap_rep request.suite request.part.key.key_value (drawn_confounder request.suite draw) (reply_part number draw request))

-- an AP-REP as a token: bare in DCE style (MS-KILE, section 3.4.5.1), otherwise framed
abbrev pub token_with : Bool → Bool → List ℕ → List ℕ
token_with dce user_to_user message = if dce then message else framed (mechanism user_to_user) ap_rep_id message

-- after an AP-REP the context awaits the initiator's third leg in DCE style; otherwise it is established
abbrev pub state_behind : Bool → KerberosState
state_behind dce = if dce then ApExchange else Final

-- mutual-required: the drawn key is the subkey, the acceptor's sequence number is unchanged, and the AP-REP is the answer
unfoldable pub mutual_admission : Bool → Bool → ℕ → Draw → Request → Option UserName → Admission
mutual_admission dce user_to_user number draw request client = record {
  client = client;
  suite = request.suite;
  session_key = request.part.key.key_value;
  sub_session_key = Some (drawn_key request.suite draw);
  acceptor_subkey = true;
  seq_number = number;
  state = state_behind dce;
  token = token_with dce user_to_user (reply_message number draw request);
}

-- the suite of a subkey that is there
abbrev pub subkey_suite : CipherSuite → Option EncryptionKey → CipherSuite
subkey_suite suite None = suite
subkey_suite suite (Some key) = unwrap_or (suite_of_integer key.key_type) suite

-- the acceptor's sequence number from an authenticator's: one less than the value of its low four octets, modulo 2^32; a shorter one
-- is extended by zero octets on the left
abbrev pub number_before : ℕ → Option (List ℕ) → ℕ
number_before number None = number
number_before number (Some octets) = (number_of octets % 2 ^ 32 + (2 ^ 32 - 1)) % 2 ^ 32

-- otherwise: an authenticator's subkey and number are taken, and there is no token
unfoldable pub one_way_admission : ℕ → Request → Option UserName → Admission
one_way_admission number request client = record {
  client = client;
  suite = subkey_suite request.suite request.authenticator.subkey;
  session_key = request.part.key.key_value;
  sub_session_key = option_map (λ (key : EncryptionKey). key.key_value) request.authenticator.subkey;
  acceptor_subkey = false;
  seq_number = number_before number request.authenticator.seq_number;
  state = Final;
  token = [];
}

-- the admission of the client
abbrev pub admission_of : Bool → Bool → ℕ → Draw → Request → Option UserName → Admission
admission_of dce user_to_user number draw request client =
    if is_mutual request.message.ap_options then mutual_admission dce user_to_user number draw request client else one_way_admission number request client

-- a context that is not established waits for the peer
abbrev pub status_in : KerberosState → SecurityStatus
status_in TgtExchange = ContinueNeeded
status_in Preauthentication = ContinueNeeded
status_in ApExchange = ContinueNeeded
status_in Final = Complete

-- a client is admitted
abbrev pub answer_for : Admission → Answer
answer_for admission = record { status = status_in admission.state; token = admission.token; admits = true }

abbrev pub with_client : Option ServerProperties → Option UserName → Option ServerProperties
with_client None client = None
with_client (Some server) client = Some (record server { client = client })

-- the first of some
abbrev pub or_else : {A : Type 0} → Option A → Option A → Option A
or_else None other = other
or_else (Some x) other = Some x

-- an acceptor that has admitted a client: everything else in it is unchanged
unfoldable pub settled : Kerberos → Admission → Kerberos
settled server admission = record server {
  state = admission.state;
  encryption_params = record server.encryption_params {
    encryption_type = Some admission.suite;
    session_key = Some admission.session_key;
    sub_session_key = or_else admission.sub_session_key server.encryption_params.sub_session_key;
    acceptor_subkey = admission.acceptor_subkey;
  };
  seq_number = admission.seq_number;
  server = with_client server.server admission.client;
}

-- a part that can be written, and sealed in an AP-REP that can be written
pub record IsShortPart (part : EncApRepPart) : Type 0 where
  pub complete : IsComplete enc_ap_rep_part (enc_ap_rep_part_layout.view part)
  pub short : length (tlv (tag_of enc_ap_rep_part) (contents enc_ap_rep_part (enc_ap_rep_part_layout.view part))) ≤ 2 ^ 26

-- the session key is as long as the suite's keys, and what an AP-REP repeats has an octet and is no longer than a token
pub record IsAnswerable (request : Request) : Type 0 where
  pub fits : length request.part.key.key_value ≡ key_size request.suite
  pub some : 0 < length request.authenticator.cusec
  pub short : length request.authenticator.cusec ≤ 2 ^ 24
