-- The initiator's AP-REP, the third leg in DCE style (MS-KILE, section 3.4.5.1; RFC 4120, section 5.5.2).
use Rattle.std.specs.Prelude.{ℕ, ◌<◌, ◌≤◌, ◌^◌, List, [], ◌∷◌, length, Some, None}
use Rattle.krb_der.specs.Layout.{spelling}
use Rattle.krb_crypto.specs.declared.suite.CipherSuite.{CipherSuite}
use Rattle.krb_messages.specs.declared.encryption.EncryptedData.{EncryptedData}
use Rattle.krb_messages.specs.declared.ap_rep.ApRep.{ApRep}
use Rattle.krb_messages.specs.declared.ap_rep.EncApRepPart.{EncApRepPart}
use Rattle.krb_messages.specs.Layouts.{enc_ap_rep_part_layout}
use Rattle.krb_requests.specs.Pieces.{sealed_under, whole_second}
use Rattle.krb_authenticators.specs.Authenticators.{microseconds}

-- the time of a moment and a sequence number, and no subkey
abbrev pub ap_rep_part : List ℕ → ℕ → EncApRepPart
ap_rep_part number moment = record { ctime = whole_second moment; cusec = microseconds moment; subkey = None; seq_number = Some number }

-- version 5, message type 15
abbrev pub ap_rep_with : EncryptedData → ApRep
ap_rep_with part = record { pvno = 5 ∷ []; msg_type = 15 ∷ []; enc_part = part }

-- an AP-REP in which this is encrypted under the session key, with usage 12 (RFC 4120, section 7.5.1)
abbrev pub ap_rep : CipherSuite → List ℕ → List ℕ → EncApRepPart → ApRep
ap_rep suite key confounder part = ap_rep_with (sealed_under suite key 12 confounder (spelling enc_ap_rep_part_layout part))

-- the octets of an INTEGER, no longer than a token
pub record IsSendableNumber (octets : List ℕ) : Type 0 where
  pub some : 0 < length octets
  pub short : length octets ≤ 2 ^ 24
