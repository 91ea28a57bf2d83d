-- The buffers of a message, as a line declares them.
use Rattle.std.specs.Prelude.{ℕ, Bool, nat_le, ◌==◌, ◌&&◌, if◌then◌else◌, List, [], ◌∷◌, codes, length, Option, Some, None}
use Rattle.std.specs.List.{slice_split}
use Rattle.std.specs.Str.{bytes_eq}
use Rattle.std.specs.Result.{result_ok}
use Rattle.hex.specs.Hex.{decode_of}
use Rattle.sspi_core.specs.Buffer.{Buffer, no_flags}
use Rattle.sspi_core.specs.Messages.{is_message}
use Rattle.sspi_core.specs.declared.buffer.BufferType.{BufferType}
use Rattle.sspi_core.specs.declared.buffer.BufferType.TheVariants.{Token, Data, Stream}
use Rattle.sspi_core.specs.Flags.{readonly_with_checksum}
use Rattle.sspi_core.specs.declared.flags.SecurityBufferFlags.{SecurityBufferFlags}
use Rattle.krb_text.specs.Decimals.{decimal_up_to}
use Rattle.krb_der.specs.Reading.{◌>>=◌}
use Rattle.krb_script.specs.Options.{if_so}

-- the parts of a field between its colons
abbrev pub parts : List ℕ → List (List ℕ)
parts field = slice_split (λ b. b == 58) field

-- octets in hex, of which there may be none
abbrev pub hex_of : List ℕ → Option (List ℕ)
hex_of text = result_ok (decode_of text)

-- SECBUFFER_READONLY_WITH_CHECKSUM: data that the checksum covers and that are not encrypted
abbrev pub read_only : SecurityBufferFlags
read_only = record { 0 = readonly_with_checksum }

-- a buffer by its letter: T the token, D the data to encrypt, R data that the checksum covers, S the stream
abbrev pub lettered : List ℕ → List ℕ → ℕ → Option Buffer
lettered letter octets limit =
    if bytes_eq letter (codes "T") then Some (record { kind = Token; flags = no_flags; octets = octets; limit = limit })
    else if bytes_eq letter (codes "D") then Some (record { kind = Data; flags = no_flags; octets = octets; limit = limit })
    else if bytes_eq letter (codes "R") then Some (record { kind = Data; flags = read_only; octets = octets; limit = limit })
    else if bytes_eq letter (codes "S") then Some (record { kind = Stream; flags = no_flags; octets = octets; limit = limit })
    else None

-- <letter>:<hex>:<limit>: at most `limit` octets; the limit is at most 2^20
abbrev pub buffer_in : List (List ℕ) → Option Buffer
buffer_in (letter ∷ digits ∷ limit_text ∷ []) = do
  octets ← hex_of digits
  limit ← decimal_up_to 1048576 limit_text
  if_so (nat_le (length octets) limit) (lettered letter octets limit)
buffer_in _ = None

abbrev pub buffer_of : List ℕ → Option Buffer
buffer_of field = buffer_in (parts field)

-- one buffer for each field
abbrev pub buffers_of : List (List ℕ) → Option (List Buffer)
buffers_of [] = Some []
buffers_of (field ∷ rest) = do
  first ← buffer_of field
  more ← buffers_of rest
  Some (first ∷ more)

-- 1 to 16 buffers, among them at most one token, one stream and one buffer of data to encrypt
abbrev pub message_of : List (List ℕ) → Option (List Buffer)
message_of texts =
    if_so (nat_le 1 (length texts) && nat_le (length texts) 16) (buffers_of texts >>= (λ buffers. if_so (is_message buffers) (Some buffers)))
