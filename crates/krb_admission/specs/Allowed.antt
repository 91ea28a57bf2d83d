-- The further requirements of RFC 4120 and RFC 4121 on a ticket and its authenticator, each only if a rule asks for it.
use Rattle.std.specs.Prelude.{ℕ, ◌==◌, ◌%◌, ◌^◌, bit_and, pos, nat_le, Bool, true, false, not, ◌&&◌, ◌||◌, List, [], ◌∷◌, length, take, drop, Option, Some, None, Result, bytes_eq, if◌then◌else◌}
use Rattle.std.specs.Int.{w16, w32, from_le_bytes}
use Rattle.krb_der.specs.Reading.{number_of}
use Rattle.krb_context.specs.Rules.{has_rule, valid_tickets, checked_transit, bound_to_its_channel}
use Rattle.krb_context.specs.declared.context.Kerberos.{Kerberos}
use Rattle.krb_context.specs.declared.rules.Rules.{Rules}
use Rattle.krb_messages.specs.declared.encryption.Checksum.{Checksum}
use Rattle.krb_messages.specs.declared.enc_ticket_part.EncTicketPart.{EncTicketPart}
use Rattle.krb_admission.specs.declared.request.Request.{Request}
use Rattle.krb_replies.specs.Fresh.{is_number}
use Rattle.sspi_core.specs.declared.cause.Cause.{Cause}
use Rattle.sspi_core.specs.declared.cause.Cause.TheVariants as causes
use Rattle.sspi_core.specs.Checks.{Holds, ◌>>◌}

-- bit 7 of a ticket's flags, INVALID (RFC 4120, section 5.3)
abbrev pub is_invalid : List ℕ → Bool
is_invalid [] = false
is_invalid (a ∷ rest) = not (bit_and a 0x01 == 0)

-- bit 12, TRANSITED-POLICY-CHECKED (RFC 4120, section 5.3)
abbrev pub is_policy_checked : List ℕ → Bool
is_policy_checked [] = false
is_policy_checked (a ∷ []) = false
is_policy_checked (a ∷ b ∷ rest) = not (bit_and b 0x08 == 0)

-- the ticket came through no further realms
abbrev pub is_direct : List ℕ → Bool
is_direct [] = true
is_direct (a ∷ rest) = false

-- an INVALID ticket is none (RFC 4120, section 3.2.3)
abbrev pub is_validated : Rules → EncTicketPart → Bool
is_validated rules part = not (has_rule rules valid_tickets) || not (is_invalid part.flags.octets)

-- a KDC checked the realms that the ticket came through, where there are such (RFC 4120, section 2.7)
abbrev pub is_transit_checked : Rules → EncTicketPart → Bool
is_transit_checked rules part = not (has_rule rules checked_transit) || (is_direct part.transited.contents || is_policy_checked part.flags.octets)

-- a checksum of type 8003 (RFC 4121, section 4.1.1) over bindings of 16 octets and flags
abbrev pub is_gss : Checksum → Bool
is_gss checksum =
    is_number checksum.cksumtype (pos 0x8003) && (nat_le 24 (length checksum.checksum) && bytes_eq (take 4 checksum.checksum) (16 ∷ 0 ∷ 0 ∷ 0 ∷ []))

abbrev pub is_gss_if_there : Option Checksum → Bool
is_gss_if_there None = false
is_gss_if_there (Some checksum) = is_gss checksum

-- octets 4 to 19 of such a checksum: the MD5 of the client's bindings, and zeros where it gave none; no octets in any other
abbrev pub hash_told : Option Checksum → List ℕ
hash_told None = []
hash_told (Some checksum) = if is_gss checksum then take 16 (drop 4 checksum.checksum) else []

-- the hash of the bindings that a client must have
abbrev pub channel_held : Kerberos → Option (List ℕ)
channel_held server = if has_rule server.rules bound_to_its_channel then server.channel else None

-- if a client must have bindings, its checksum contains some
abbrev pub tells_bindings : Option (List ℕ) → Option Checksum → Bool
tells_bindings None checksum = true
tells_bindings (Some hash) checksum = is_gss_if_there checksum

-- if a client must have bindings, they are those of the channel
abbrev pub is_bound : Option (List ℕ) → Option Checksum → Bool
is_bound None checksum = true
is_bound (Some hash) checksum = bytes_eq (hash_told checksum) hash

-- the ticket and the authenticator are as the rules ask
unfoldable pub Allows : Kerberos → Request → Result (Unit {0}) Cause → Type 0
Allows server request = do
  Holds causes.NotYet (is_validated server.rules request.part)
  Holds causes.Transited (is_transit_checked server.rules request.part)
  Holds causes.Checksum (tells_bindings (channel_held server) request.authenticator.cksum)
  Holds causes.Bindings (is_bound (channel_held server) request.authenticator.cksum)

-- four octets as a number, the lowest first
abbrev pub low_word : List ℕ → Option ℕ
low_word (a ∷ b ∷ c ∷ d ∷ rest) = Some (from_le_bytes w32 (a ∷ b ∷ c ∷ d ∷ []))
low_word _ = None

-- the GSS flags that the client asked for: octets 20 to 23 of its checksum (RFC 4121, section 4.1.1)
abbrev pub gss_flags : Option Checksum → Option ℕ
gss_flags None = None
gss_flags (Some checksum) = if is_gss checksum then low_word (drop 20 checksum.checksum) else None

-- a KRB-CRED, from octet 24 of a checksum on: the option 1 and its length, in two octets each, the lowest first, and the KRB-CRED
-- (RFC 4121, section 4.1.1)
abbrev pub cred_in : List ℕ → List ℕ
cred_in (a ∷ b ∷ c ∷ d ∷ rest) =
    if a == 1 && (b == 0 && nat_le (from_le_bytes w16 (c ∷ d ∷ [])) (length rest)) then take (from_le_bytes w16 (c ∷ d ∷ [])) rest else []
cred_in _ = []

-- the first flag of RFC 2744, GSS_C_DELEG_FLAG
abbrev pub asks_to_delegate : Option ℕ → Bool
asks_to_delegate None = false
asks_to_delegate (Some flags) = not (bit_and flags 1 == 0)

-- the KRB-CRED of a client that asks for delegation, and no octets where it does not
abbrev pub delegation_told : Option Checksum → List ℕ
delegation_told None = []
delegation_told (Some checksum) = if asks_to_delegate (gss_flags (Some checksum)) then cred_in (drop 24 checksum.checksum) else []

-- the number of a client's first message: its authenticator's, modulo 2^32, and 0 where it has none (RFC 4120, section 5.5.1)
abbrev pub first_number : Option (List ℕ) → ℕ
first_number None = 0
first_number (Some octets) = number_of octets % 2 ^ 32
