-- Authenticators (RFC 4120, section 5.5.1), record by record.
use Rattle.std.specs.Prelude.{ℕ, ◌%◌, ◌^◌, ◌≤◌, ◌<◌, ◌&&◌, ◌==◌, Bool, false, List, [], ◌∷◌, length, Option, Some, None, IfSome, option_map, nat_lt, if◌then◌else◌}
use Rattle.std.specs.Int.{w32, to_be_bytes}
use Rattle.std.specs.Cmp.Lexicographic.{pointwise}
use Rattle.krb_der.specs.Integer.{unsigned_octets}
use Rattle.krb_messages.specs.declared.encryption.EncryptionKey.{EncryptionKey}
use Rattle.krb_messages.specs.declared.encryption.Checksum.{Checksum}
use Rattle.krb_messages.specs.declared.authorization_data.AuthorizationDataElement.{AuthorizationDataElement}
use Rattle.krb_messages.specs.declared.authenticator.Authenticator.{Authenticator}
use Rattle.krb_messages.specs.Layouts.{principal_name_layout}
use Rattle.krb_exchange.specs.declared.kdc_rep.KdcRep.{KdcRep}
use Rattle.sspi_core.specs.declared.bindings.ChannelBindings.{ChannelBindings}
use Rattle.krb_requests.specs.Pieces.{encryption_key, whole_second}
use Rattle.krb_authenticators.specs.declared.options.EncKey.{EncKey}
use Rattle.krb_authenticators.specs.declared.options.ChecksumOptions.{ChecksumOptions}
use Rattle.krb_authenticators.specs.Checksums.{with_hash}
use Rattle.krb_authenticators.specs.Bindings.{bindings_hash, AreShortBindings}
use Rattle.krb_requests.specs.Pieces.{Fits}

-- the microseconds of a moment after its whole second, in four octets
abbrev pub microseconds : ℕ → List ℕ
microseconds moment = to_be_bytes w32 (moment % 1000000)

-- a number of 32 bits, as an INTEGER of four octets or five
abbrev pub number_octets : ℕ → List ℕ
number_octets number = unsigned_octets (to_be_bytes w32 number)

abbrev pub subkey : EncKey → EncryptionKey
subkey key = encryption_key key.key_type key.key_value

-- the checksum type of RFC 4121, section 4.1.1: 8003 hex
abbrev pub is_gss : List ℕ → Bool
is_gss type = pointwise ◌==◌ type (0x00 ∷ 0x80 ∷ 0x03 ∷ [])

-- the value of a checksum with the hash of the bindings, which a checksum of that type has, and no other
abbrev pub bound : List ℕ → List ℕ → List ℕ → List ℕ
bound type value hash = if is_gss type then with_hash value hash else value

abbrev pub checksum : Option ChannelBindings → ChecksumOptions → Checksum
checksum None options = record { cksumtype = options.checksum_type; checksum = options.checksum_value }
checksum (Some bindings) options =
    record { cksumtype = options.checksum_type; checksum = bound options.checksum_type options.checksum_value (bindings_hash bindings) }

-- bindings have to go into a checksum that ends before the octets of their hash
abbrev pub lacks_room : Option ChannelBindings → Option ChecksumOptions → Bool
lacks_room None checksum = false
lacks_room (Some bindings) None = false
lacks_room (Some bindings) (Some options) = is_gss options.checksum_type && nat_lt (length options.checksum_value) 20

-- the sign for channel bindings: KERB_AP_OPTIONS, 143, with the flag KERB_AP_OPTIONS_CBT, 4000 hex, in four octets, the lowest
-- first (MS-KILE, section 3.2.5.8)
abbrev pub bindings_sign : List AuthorizationDataElement
bindings_sign = record { ad_type = 0x00 ∷ 0x8f ∷ []; ad_data = 0x00 ∷ 0x40 ∷ 0x00 ∷ 0x00 ∷ [] } ∷ []

abbrev pub sign_if : Option ChannelBindings → Option (List AuthorizationDataElement)
sign_if None = None
sign_if (Some bindings) = Some bindings_sign

abbrev pub authenticator : KdcRep → Option ℕ → Option EncKey → Option ChecksumOptions → Option ChannelBindings → ℕ → Authenticator
authenticator rep number key options bindings moment = record {
  authenticator_vno = 5 ∷ [];
  crealm = rep.crealm;
  cname = rep.cname;
  cksum = option_map (checksum bindings) options;
  cusec = microseconds moment;
  ctime = whole_second moment;
  subkey = option_map subkey key;
  seq_number = option_map number_octets number;
  authorization_data = sign_if bindings;
}

-- a checksum with a type, both no longer than any argument is
pub record IsShortChecksum (options : ChecksumOptions) : Type 0 where
  pub some : 0 < length options.checksum_type
  pub type : length options.checksum_type ≤ 2 ^ 24
  pub value : length options.checksum_value ≤ 2 ^ 24

-- the parts of an authenticator can be written
pub record AreShort (rep : KdcRep) (sub_key : Option EncKey) (options : Option ChecksumOptions) (channel_bindings : Option ChannelBindings) : Type 0 where
  pub realm : length rep.crealm ≤ 2 ^ 24
  pub name : Fits principal_name_layout (2 ^ 24) rep.cname
  pub key : IfSome sub_key (λ (k : EncKey). length k.key_value ≤ 2 ^ 24)
  pub checksum : IfSome options IsShortChecksum
  pub bindings : IfSome channel_bindings AreShortBindings
