-- The header of the format 0504, as MIT krb5 describes it (doc/formats/ccache_file_format, "Header format"): consecutive fields.
use Rattle.std.specs.Prelude.{◌≡◌, ℕ, ◌^◌, ◌<◌, List, ◌++◌, length, take, drop, Option, Some, None, ◌==◌, if◌then◌else◌}
use Rattle.std.specs.List.{flat_map, AllByRecursion}
use Rattle.std.specs.Int.{w16, w32, to_be_bytes, from_be_bytes, cast_signed}
use Rattle.krb_ccache.specs.declared.header.TimeOffset.{TimeOffset}
use Rattle.krb_ccache.specs.declared.ccache.Version.{Version}
use Rattle.krb_ccache.specs.declared.ccache.Version.TheVariants.{Three, Four}

-- a field: its tag, and its value after its length
abbrev pub Field : Type 0
Field = ℕ × List ℕ

abbrev pub field_octets : Field → List ℕ
field_octets field = to_be_bytes w16 field.0 ++ (to_be_bytes w16 (length field.1) ++ field.1)

abbrev pub FitsField : Field → Type 0
FitsField field = (field.0 < 2 ^ 16) × (length field.1 < 2 ^ 16)

-- any field but the time offset's, whose tag is 1
abbrev pub IsOther : Field → Type 0
IsOther field = FitsField field × (field.0 ≡ 1 → ⊥)

-- eight octets as a time offset: two numbers of 32 bits in two's complement, seconds and microseconds
abbrev pub offset_of : List ℕ → TimeOffset
offset_of value = record { seconds = cast_signed w32 (from_be_bytes w32 (take 4 value)); microseconds = cast_signed w32 (from_be_bytes w32 (drop 4 value)) }

-- The first field of tag 1 has eight octets, and they are this time offset. Anything may follow it.
pub record TellsOffset (header : List ℕ) (offset : TimeOffset) : Type 0 where
  pub before : List Field
  pub value : List ℕ
  pub behind : List ℕ
  pub others : AllByRecursion IsOther before
  pub parts : header ≡ flat_map field_octets before ++ (field_octets (1, value) ++ behind)
  pub eight : length value ≡ 8
  pub is : offset ≡ offset_of value

-- the time offset of a file: the format 0503 has none
abbrev pub HasOffset : Version → TimeOffset → Type 0
HasOffset Three offset = ⊥
HasOffset (Four header) offset = TellsOffset header offset

-- ---- the same, as it is read

abbrev pub offset_in : List ℕ → Option TimeOffset
offset_in value = if length value == 8 then Some (offset_of value) else None

-- the time offset of a header, or the statement that it has none
abbrev pub FindsOffset : List ℕ → Option TimeOffset → Type 0
FindsOffset header None = (offset : TimeOffset) → TellsOffset header offset → ⊥
FindsOffset header (Some offset) = TellsOffset header offset
