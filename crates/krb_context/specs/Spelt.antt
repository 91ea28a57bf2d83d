-- The octets that spell a text (RFC 4121, section 4.2.4).
use Rattle.std.specs.Prelude.{◌≡◌, ℕ, ◌+◌, ◌-◌, ◌%◌, ◌<◌, List, ◌++◌, length, take, drop, slice_index, Bool, IsTrue, IsFalse, ◌==◌, if◌then◌else◌}
use Rattle.std.specs.List.{slice_rotate_right}
use Rattle.krb_aes.specs.Aes.{aes}
use Rattle.krb_crypto.specs.Cts.{cts}
use Rattle.krb_crypto.specs.Hmac.{hmac12}
use Rattle.krb_crypto.specs.SealingPair.{SealingPair}
use Rattle.sspi_core.specs.Buffer.{Buffer}
use Rattle.krb_context.specs.Header.{is_wrap_header, is_sealed, is_from, ec_of, rrc_of, IsCopyOf, without_counts}
use Rattle.krb_context.specs.Spelled.{spelled, covered}

-- how far a sealed body of n octets is turned to the right
abbrev pub sealed_turn : ℕ → ℕ → ℕ → ℕ
sealed_turn ec rrc n = if rrc == 28 then 28 + ec else rrc % n

-- the text that is encrypted
abbrev pub inner_text : List ℕ → List ℕ → List ℕ → List ℕ → List ℕ
inner_text confounder p filler copy = confounder ++ p ++ filler ++ copy

-- the encrypted text, and the checksum of the confounder, all data, the EC octets (`filler`) and the header's copy
unfoldable pub sealed_body : SealingPair → List Buffer → List ℕ → List ℕ → List ℕ → List ℕ → List ℕ
sealed_body keys buffers confounder p filler copy =
    cts (aes keys.encryption) (inner_text confounder p filler copy)
    ++ hmac12 keys.integrity (confounder ++ covered p buffers ++ filler ++ copy)

-- the checksum over an opened text whose plain text ends at a place
unfoldable pub covered_code : List ℕ → List Buffer → List ℕ → ℕ → List ℕ
covered_code key buffers text end = hmac12 key (take 16 text ++ covered (take (end - 16) (drop 16 text)) buffers ++ drop end text)

-- this is such a text and checksum of p, with a copy of this header at the end
pub record IsSealedAs (keys : SealingPair) (ec : ℕ) (header : List ℕ) (buffers : List Buffer) (whole p : List ℕ) : Type 0 where
  pub confounder : List ℕ
  pub confounder_size : length confounder ≡ 16
  pub filler : List ℕ
  pub filler_size : length filler ≡ ec
  pub copy : List ℕ
  pub copied : IsCopyOf header copy
  pub octets : (k : ℕ) → slice_index (inner_text confounder p filler copy) k < 256
  pub is : whole ≡ sealed_body keys buffers confounder p filler copy

-- the buffers spell p, sealed under these keys by this side
pub record Spelt (keys : SealingPair) (acceptor : Bool) (ec : ℕ) (buffers : List Buffer) (p : List ℕ) : Type 0 where
  pub header : List ℕ
  pub body : List ℕ
  pub text : spelled buffers ≡ header ++ body
  pub header_size : length header ≡ 16
  pub token : IsTrue (is_wrap_header header)
  pub sealed : IsTrue (is_sealed header)
  pub side : IsTrue (is_from acceptor header)
  pub count : ec_of header ≡ ec
  pub whole : List ℕ
  pub sealed_as : IsSealedAs keys ec header buffers whole p
  pub is : body ≡ slice_rotate_right whole (sealed_turn ec (rrc_of header) (length body))

-- this is p and its checksum, with this header
pub record IsClearAs (key header whole p : List ℕ) : Type 0 where
  pub count : ec_of header ≡ 12
  pub is : whole ≡ p ++ hmac12 key (p ++ without_counts header)

-- the buffers spell p in the clear, with a checksum under this key by this side
pub record SpeltClear (key : List ℕ) (acceptor : Bool) (buffers : List Buffer) (p : List ℕ) : Type 0 where
  pub header : List ℕ
  pub body : List ℕ
  pub text : spelled buffers ≡ header ++ body
  pub header_size : length header ≡ 16
  pub token : IsTrue (is_wrap_header header)
  pub sealed : IsFalse (is_sealed header)
  pub side : IsTrue (is_from acceptor header)
  pub whole : List ℕ
  pub clear_as : IsClearAs key header whole p
  pub is : body ≡ slice_rotate_right whole (rrc_of header % length body)
