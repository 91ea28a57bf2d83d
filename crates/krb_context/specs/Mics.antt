-- MIC tokens (RFC 4121, sections 4.2.4 and 4.2.6.1): a header of 16 octets, and a checksum of the payload and the header.
use Rattle.std.specs.Prelude.{◌≡◌, ℕ, List, [], ◌∷◌, ◌++◌, length, take, Bool, true, not, ◌&&◌, ◌==◌, nat_le, Option, Some, None, Result, if◌then◌else◌, slice_index}
use Rattle.std.specs.Int.{w64, to_be_bytes}
use Rattle.krb_crypto.specs.Hmac.{hmac12}
use Rattle.krb_crypto.specs.Suite.{kc}
use Rattle.sspi_core.specs.declared.cause.Cause.{Cause}
use Rattle.sspi_core.specs.declared.cause.Cause.TheVariants.{Header, Direction, Sealed, NoKey, NoSubKey, KeyLength, Altered}
use Rattle.sspi_core.specs.Checks.{Finds, Takes, Holds, Gives, ◌>>=◌, ◌>>◌}
use Rattle.krb_context.specs.declared.context.Kerberos.{Kerberos}
use Rattle.krb_context.specs.declared.params.EncryptionParams.{EncryptionParams}
use Rattle.krb_context.specs.Contexts.{is_acceptor, is_peer_acceptor, next_number}
use Rattle.krb_context.specs.Header.{is_sealed, is_from}
use Rattle.krb_context.specs.Params.{suite_of, key_of}
use Rattle.krb_context.specs.Parties.{sign_usage, own_sign_flags}
use Rattle.krb_context.specs.Unwraps.{has_key_size}

-- the header of a MIC token
unfoldable pub mic_header : ℕ → ℕ → List ℕ
mic_header flags number = 0x04 ∷ 0x04 ∷ flags ∷ 0xff ∷ 0xff ∷ 0xff ∷ 0xff ∷ 0xff ∷ [] ++ to_be_bytes w64 number

-- the token id (04 04), and the five `Filler` octets (ff)
abbrev pub is_mic_header : List ℕ → Bool
is_mic_header h =
    slice_index h 0 == 0x04 && slice_index h 1 == 0x04 && slice_index h 3 == 0xff && slice_index h 4 == 0xff && slice_index h 5 == 0xff
    && slice_index h 6 == 0xff && slice_index h 7 == 0xff

-- the key of a side's checksums
abbrev pub sign_key : EncryptionParams → List ℕ → Bool → List ℕ
sign_key params key acceptor = kc (suite_of params) key (sign_usage acceptor)

-- a header and the checksum of a payload and of it
abbrev pub signed : List ℕ → List ℕ → List ℕ → List ℕ
signed key payload header = header ++ hmac12 key (payload ++ header)

-- the token that a side makes under a key
unfoldable pub mic_token : EncryptionParams → List ℕ → Bool → ℕ → ℕ → List ℕ → List ℕ
mic_token params key acceptor flags number payload = signed (sign_key params key acceptor) payload (mic_header flags number)

-- the checks of a token that is to be made, and the token: under the sub-session key, with the next number
unfoldable pub MakesMic : Kerberos → List ℕ → Result (List ℕ) Cause → Type 0
MakesMic context payload = do
  key ← Takes NoSubKey context.encryption_params.sub_session_key
  Holds KeyLength (has_key_size context.encryption_params key)
  Gives (mic_token context.encryption_params key (is_acceptor context) (own_sign_flags context) (next_number context.seq_number) payload)

-- the header of a MIC token: 16 octets with the token id and the `Filler` octets
abbrev pub mic_header_of : List ℕ → Option (List ℕ)
mic_header_of token = if nat_le 16 (length token) && is_mic_header (take 16 token) then Some (take 16 token) else None

-- the checks of the header, and the header
unfoldable pub MicHeads : Bool → List ℕ → Result (List ℕ) Cause → Type 0
MicHeads peer token = do
  header ← Takes Header (mic_header_of token)
  Holds Direction (is_from peer header)
  Holds Sealed (not (is_sealed header))
  Gives header

-- the key of messages, of the suite's size
unfoldable pub MicKeys : EncryptionParams → Result (List ℕ) Cause → Type 0
MicKeys params = do
  key ← Takes NoKey (key_of params)
  Holds KeyLength (has_key_size params key)
  Gives key

-- this token is signed, with this header
pub record IsSigned (key payload header token : List ℕ) : Type 0 where
  pub is : token ≡ signed key payload header

-- the token is one of this side over the payload: a header of 16 octets with the token id 04 04 and the `Filler` octets, of this side,
-- in the clear, followed by the checksum of the payload and the header; the other flags and the number are any
pub record IsMicToken (params : EncryptionParams) (key : List ℕ) (acceptor : Bool) (payload token : List ℕ) : Type 0 where
  pub header : List ℕ
  pub header_size : length header ≡ 16
  pub token_id : is_mic_header header ≡ true
  pub side : is_from acceptor header ≡ true
  pub clear : not (is_sealed header) ≡ true
  pub is : token ≡ signed (sign_key params key acceptor) payload header

-- the checks of a token over a payload, from a peer of this role
unfoldable pub ReadsMic : EncryptionParams → Bool → List ℕ → List ℕ → Result (Unit {0}) Cause → Type 0
ReadsMic params peer token payload = do
  header ← MicHeads peer token
  key ← MicKeys params
  Finds Altered (λ (here : Unit {0}). IsSigned (sign_key params key peer) payload header token)

-- the checks of a token of the peer over a payload
abbrev pub ChecksMic : Kerberos → List ℕ → List ℕ → Result (Unit {0}) Cause → Type 0
ChecksMic context token payload = ReadsMic context.encryption_params (is_peer_acceptor context) token payload
