-- Buffers, as contracts see them.
use Rattle.std.specs.Prelude.{ℕ, List, Bool, true, false, not, ◌&&◌}
use Rattle.sspi_core.specs.declared.buffer.BufferType.{BufferType}
use Rattle.sspi_core.specs.declared.buffer.BufferType.TheVariants.{Token as TokenType, Data as DataType, Stream as StreamType}
use Rattle.sspi_core.specs.declared.flags.SecurityBufferFlags.{SecurityBufferFlags}
use Rattle.sspi_core.specs.declared.buffer.Part.{Part}
use Rattle.sspi_core.specs.declared.buffer.Part.TheVariants.{Token, Stream, Plain}
use Rattle.sspi_core.specs.Flags.{has_flag, readonly_with_checksum, readonly}

-- what a buffer is, what it holds, and how many octets it can hold
pub record Buffer : Type 0 where
  pub kind : BufferType
  pub flags : SecurityBufferFlags
  pub octets : List ℕ
  pub limit : ℕ

abbrev pub no_flags : SecurityBufferFlags
no_flags = record { 0 = 0 }

abbrev pub has_checksum_flag : SecurityBufferFlags → Bool
has_checksum_flag flags = has_flag flags.0 readonly_with_checksum

abbrev pub has_readonly_flag : SecurityBufferFlags → Bool
has_readonly_flag flags = has_flag flags.0 readonly

abbrev pub is_token : BufferType → Bool
is_token TokenType = true
is_token DataType = false
is_token StreamType = false

abbrev pub is_stream : BufferType → Bool
is_stream TokenType = false
is_stream DataType = false
is_stream StreamType = true

abbrev pub is_data : BufferType → Bool
is_data TokenType = false
is_data DataType = true
is_data StreamType = false

-- whether a buffer is this part of a message; the data that are sealed have neither flag
abbrev pub is_part : Part → Buffer → Bool
is_part Token b = is_token b.kind
is_part Stream b = is_stream b.kind
is_part Plain b = is_data b.kind && not (has_readonly_flag b.flags) && not (has_checksum_flag b.flags)

-- data that a message cannot have
abbrev pub is_readonly_alone : Buffer → Bool
is_readonly_alone b = is_data b.kind && has_readonly_flag b.flags && not (has_checksum_flag b.flags)
