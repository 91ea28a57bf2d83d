-- The kinds of value that RFC 4120 is made of, and the one spelling of each value.
use Rattle.std.specs.Prelude.{◌≡◌, ℕ, ◌+◌, ◌^◌, ◌<◌, ◌≤◌, Bool, true, IsTrue, List, [], ◌∷◌, ◌++◌, length, Option, IfSome, nat_lt, nat_le, ◌&&◌, if◌then◌else◌, ℤ}
use Rattle.std.specs.List.{flat_map, list_all, AllByRecursion}
use Rattle.std.specs.Option.{option_map_or}
use Rattle.krb_der.specs.Der.{tlv}
use Rattle.krb_der.specs.Integer.{is_uint32}
use Rattle.krb_der.specs.Moment.{IsTime, time_octets}

mutual
  -- a kind of value
  pub data Kind : Type 0 where
    integer error_code text octet_string bits time boolean : Kind
    sequence_of : Kind → Kind
    sequence : Fields → Kind
    application : ℕ → Kind → Kind

  -- the fields of a SEQUENCE, each in its context tag
  pub data Fields : Type 0 where
    nothing : Fields
    required optional : ℕ → Kind → Fields → Fields

-- a field, and the fields after it
infixr 5 ◌▸◌
abbrev pub ◌▸◌ : (Fields → Fields) → Fields → Fields
field ▸ fields = field fields

abbrev mutual
  -- the values of a kind
  pub Of : Kind → Type 0
  Of integer = List ℕ
  Of error_code = List ℕ
  Of text = List ℕ
  Of octet_string = List ℕ
  Of bits = ℕ × List ℕ
  Of time = ℤ
  Of boolean = Bool
  Of (sequence_of item) = List (Of item)
  Of (sequence fields) = Row fields
  Of (application n kind) = Of kind

  -- the values of fields, in their order
  pub Row : Fields → Type 0
  Row nothing = Unit {0}
  Row (required n kind fields) = Of kind × Row fields
  Row (optional n kind fields) = Option (Of kind) × Row fields

abbrev pub tag_of : Kind → ℕ
tag_of integer = 0x02
tag_of error_code = 0x02
tag_of text = 0x1b
tag_of octet_string = 0x04
tag_of bits = 0x03
tag_of time = 0x18
tag_of boolean = 0x01
tag_of (sequence_of item) = 0x30
tag_of (sequence fields) = 0x30
tag_of (application n kind) = 0x60 + n

abbrev pub is_ascii : List ℕ → Bool
is_ascii octets = list_all (λ octet. nat_lt octet 0x80) octets

-- FF for true, and 00 for false (X.690 11.1)
abbrev pub boolean_octets : Bool → List ℕ
boolean_octets b = (if b then 0xff else 0x00) ∷ []

abbrev mutual
  -- the contents of a value
  pub contents : (kind : Kind) → Of kind → List ℕ
  contents integer octets = octets
  contents error_code octets = octets
  contents text octets = octets
  contents octet_string octets = octets
  contents bits value = value.0 ∷ value.1
  contents time seconds = time_octets seconds
  contents boolean b = boolean_octets b
  contents (sequence_of item) values = flat_map (λ value. tlv (tag_of item) (contents item value)) values
  contents (sequence fields) row = row_octets fields row
  contents (application n kind) value = tlv (tag_of kind) (contents kind value)

  -- the fields that are present, in their order
  pub row_octets : (fields : Fields) → Row fields → List ℕ
  row_octets nothing row = []
  row_octets (required n kind fields) row = tlv (0xa0 + n) (tlv (tag_of kind) (contents kind row.0)) ++ row_octets fields row.1
  row_octets (optional n kind fields) row = option_map_or (λ value. tlv (0xa0 + n) (tlv (tag_of kind) (contents kind value))) row.0 []
      ++ row_octets fields row.1

abbrev mutual
  -- what has a spelling
  pub IsSound : (kind : Kind) → Of kind → Type 0
  IsSound integer octets = 0 < length octets
  IsSound error_code octets = IsTrue (is_uint32 octets)
  IsSound text octets = IsTrue (is_ascii octets)
  IsSound octet_string octets = Unit {0}
  IsSound bits value = value.0 ≤ 7
  IsSound time seconds = IsTime seconds
  IsSound boolean b = Unit {0}
  IsSound (sequence_of item) values = AllByRecursion (IsSound item) values
  IsSound (sequence fields) row = IsSoundRow fields row
  IsSound (application n kind) value = IsSound kind value

  pub IsSoundRow : (fields : Fields) → Row fields → Type 0
  IsSoundRow nothing row = Unit {0}
  IsSoundRow (required n kind fields) row = IsSound kind row.0 × IsSoundRow fields row.1
  IsSoundRow (optional n kind fields) row = IfSome row.0 (IsSound kind) × IsSoundRow fields row.1

-- the octets are the value of this kind
pub record Spells (kind : Kind) (value : Of kind) (octets : List ℕ) : Type 0 where
  pub sound : IsSound kind value
  pub short : length (contents kind value) < 2 ^ 31
  pub is : octets ≡ tlv (tag_of kind) (contents kind value)

-- The value of this kind is at the front of the octets, and rest follows it.
pub record ValueNext (kind : Kind) (value : Of kind) (octets rest : List ℕ) : Type 0 where
  pub spelling : List ℕ
  pub spells : Spells kind value spelling
  pub parts : octets ≡ spelling ++ rest

-- No value of this kind is at the front.
abbrev pub NoValueNext : Kind → List ℕ → Type 0
NoValueNext kind octets = (value : Of kind) (rest : List ℕ) → ValueNext kind value octets rest → ⊥

-- The tags of fields ascend.
abbrev mutual
  pub is_table : Kind → Bool
  is_table integer = true
  is_table error_code = true
  is_table text = true
  is_table octet_string = true
  is_table bits = true
  is_table time = true
  is_table boolean = true
  is_table (sequence_of item) = is_table item
  is_table (sequence fields) = ascend fields 0
  is_table (application n kind) = is_table kind

  pub ascend : Fields → ℕ → Bool
  ascend nothing low = true
  ascend (required n kind fields) low = nat_le low n && (is_table kind && ascend fields (n + 1))
  ascend (optional n kind fields) low = nat_le low n && (is_table kind && ascend fields (n + 1))

-- The precondition of T::write besides the length: an octet in each integer and at most 7 unused bits. (That a text is ASCII, a
-- moment in the calendar and an error code in its range are invariants of Name, Time and ErrorCode.)
abbrev mutual
  pub IsComplete : (kind : Kind) → Of kind → Type 0
  IsComplete integer octets = 0 < length octets
  IsComplete error_code octets = Unit {0}
  IsComplete text octets = Unit {0}
  IsComplete octet_string octets = Unit {0}
  IsComplete bits value = value.0 ≤ 7
  IsComplete time seconds = Unit {0}
  IsComplete boolean b = Unit {0}
  IsComplete (sequence_of item) values = AllByRecursion (IsComplete item) values
  IsComplete (sequence fields) row = IsCompleteRow fields row
  IsComplete (application n kind) value = IsComplete kind value

  pub IsCompleteRow : (fields : Fields) → Row fields → Type 0
  IsCompleteRow nothing row = Unit {0}
  IsCompleteRow (required n kind fields) row = IsComplete kind row.0 × IsCompleteRow fields row.1
  IsCompleteRow (optional n kind fields) row = IfSome row.0 (IsComplete kind) × IsCompleteRow fields row.1

-- The precondition of a writer: an octet in each integer, at most 7 unused bits, and lengths under 2^31 all the way down.
abbrev mutual
  pub IsWritable : (kind : Kind) → Of kind → Type 0
  IsWritable integer octets = 0 < length octets
  IsWritable error_code octets = Unit {0}
  IsWritable text octets = Unit {0}
  IsWritable octet_string octets = Unit {0}
  IsWritable bits value = value.0 ≤ 7
  IsWritable time seconds = Unit {0}
  IsWritable boolean b = Unit {0}
  IsWritable (sequence_of item) values = AllByRecursion (λ value. (length (contents item value) < 2 ^ 31) × IsWritable item value) values
  IsWritable (sequence fields) row = IsWritableRow fields row
  IsWritable (application n kind) value = (length (contents kind value) < 2 ^ 31) × IsWritable kind value

  pub IsWritableRow : (fields : Fields) → Row fields → Type 0
  IsWritableRow nothing row = Unit {0}
  IsWritableRow (required n kind fields) row = (length (tlv (tag_of kind) (contents kind row.0)) < 2 ^ 31) × IsWritable kind row.0 × IsWritableRow fields row.1
  IsWritableRow (optional n kind fields) row =
      IfSome row.0 (λ value. (length (tlv (tag_of kind) (contents kind value)) < 2 ^ 31) × IsWritable kind value)
      × IsWritableRow fields row.1
