-- Keytab files as MIT's format 0502 has them. All numbers are big-endian.
use Rattle.std.specs.Prelude.{◌≡◌, ◌⊎◌, ℕ, ◌+◌, ◌-◌, ◌%◌, ◌^◌, ◌<◌, ◌≤◌, Bool, true, List, [], ◌∷◌, ◌++◌, length, take, not, ◌&&◌, nat_lt, ◌==◌, if◌then◌else◌}
use Rattle.std.specs.List.{flat_map, list_all, AllByRecursion}
use Rattle.std.specs.Int.{w16, w32, to_be_bytes, from_be_bytes}
use Rattle.krb_der.specs.Schema.{is_ascii}
use Rattle.krb_keytab.specs.declared.entry.KeytabEntry.{KeytabEntry}
use Rattle.krb_keytab.specs.declared.error.KeytabError.{KeytabError}
use Rattle.krb_keytab.specs.declared.error.KeytabError.TheVariants as errors

-- the length in two octets, and the octets
abbrev pub counted : List ℕ → List ℕ
counted octets = to_be_bytes w16 (length octets) ++ octets

-- The version of an entry is in the four octets after its key, if they are there and not zero, whatever follows; otherwise it is in
-- the single octet before the key.
abbrev pub version_of : ℕ → List ℕ → ℕ
version_of short behind =
    if nat_lt (length behind) 4 then short else
    if from_be_bytes w32 (take 4 behind) == 0 then short else from_be_bytes w32 (take 4 behind)

-- an entry with this octet as its short version, and with these octets after its key
abbrev pub entry_octets : KeytabEntry → ℕ → List ℕ → List ℕ
entry_octets entry short behind =
    to_be_bytes w16 (length entry.components) ++ (counted entry.realm ++ (flat_map counted entry.components ++ (to_be_bytes w32 entry.name_type
    ++ (to_be_bytes w32 entry.time ++ (short ∷ (to_be_bytes w16 entry.key_type ++ (counted entry.key ++ behind)))))))

-- a realm, or a component of a name
abbrev pub IsPart : List ℕ → Type 0
IsPart part = (length part < 2 ^ 16) × (is_ascii part ≡ true)

-- what has room in the fields of an entry
pub record Fits (entry : KeytabEntry) : Type 0 where
  pub realm : IsPart entry.realm
  pub components : AllByRecursion IsPart entry.components
  pub count : length entry.components < 2 ^ 16
  pub name_type : entry.name_type < 2 ^ 32
  pub time : entry.time < 2 ^ 32
  pub version : entry.version < 2 ^ 32
  pub key_type : entry.key_type < 2 ^ 16
  pub key : length entry.key < 2 ^ 16

-- The octets are the entry.
pub record SpellsEntry (entry : KeytabEntry) (octets : List ℕ) : Type 0 where
  pub short : ℕ
  pub behind : List ℕ
  pub fits : Fits entry
  pub version : entry.version ≡ version_of short behind
  pub parts : octets ≡ entry_octets entry short behind

-- An item of a file is an entry and its octets, or a hole of these octets, which say nothing.
pub data Item : Type 0 where
  Entry : KeytabEntry → List ℕ → Item
  Hole : List ℕ → Item

-- four octets of size in front: that of an entry, or that of a hole as a negative number in two's complement
abbrev pub item_octets : Item → List ℕ
item_octets (Entry entry octets) = to_be_bytes w32 (length octets) ++ octets
item_octets (Hole octets) = to_be_bytes w32 (2 ^ 32 - length octets) ++ octets

abbrev pub IsItem : Item → Type 0
IsItem (Entry entry octets) = SpellsEntry entry octets × (0 < length octets) × (length octets < 2 ^ 31)
IsItem (Hole octets) = (0 < length octets) × (length octets ≤ 2 ^ 31)

-- the entries among items
abbrev pub entries_among : List Item → List KeytabEntry
entries_among [] = []
entries_among (Entry entry octets ∷ items) = entry ∷ entries_among items
entries_among (Hole octets ∷ items) = entries_among items

-- A file ends where nothing is left, or with a size of 0, whatever follows.
abbrev pub IsEnd : List ℕ → Type 0
IsEnd octets = (octets ≡ []) ⊎ ((behind : List ℕ) × (octets ≡ 0 ∷ 0 ∷ 0 ∷ 0 ∷ behind))

-- The octets are a file with these entries: the version, consecutive items, and the end.
pub record Spells (entries : List KeytabEntry) (octets : List ℕ) : Type 0 where
  pub items : List Item
  pub rest : List ℕ
  pub each : AllByRecursion IsItem items
  pub ends : IsEnd rest
  pub parts : octets ≡ 5 ∷ 2 ∷ (flat_map item_octets items ++ rest)
  pub among : entries ≡ entries_among items

-- No file begins so.
abbrev pub HasNoVersion : List ℕ → Type 0
HasNoVersion octets = (behind : List ℕ) → octets ≡ 5 ∷ 2 ∷ behind → ⊥

-- Neither the end of a file nor an item is at the front.
pub record IsBroken (octets : List ℕ) : Type 0 where
  pub no_end : IsEnd octets → ⊥
  pub no_item : (item : Item) (behind : List ℕ) → IsItem item → octets ≡ item_octets item ++ behind → ⊥

-- After the version and whole items comes, this far from the front, neither an item nor the end.
pub record IsBrokenAt (place : ℕ) (octets : List ℕ) : Type 0 where
  pub items : List Item
  pub rest : List ℕ
  pub each : AllByRecursion IsItem items
  pub broken : IsBroken rest
  pub parts : octets ≡ 5 ∷ 2 ∷ (flat_map item_octets items ++ rest)
  pub stands : place + length rest ≡ length octets

-- Why octets are no keytab.
abbrev pub IsFault : KeytabError → List ℕ → Type 0
IsFault errors.Version octets = HasNoVersion octets
IsFault (errors.Entry place) octets = IsBrokenAt place octets
IsFault errors.OutOfMemory octets = Unit {0}

-- the entry as it is written: its version modulo 256 in one octet, and whole in four
abbrev pub written_entry : KeytabEntry → List ℕ
written_entry entry = entry_octets entry (entry.version % 256) (to_be_bytes w32 entry.version)

abbrev pub written_item : KeytabEntry → List ℕ
written_item entry = item_octets (Entry entry (written_entry entry))

-- the file as it is written: the version and the entries, without holes
abbrev pub written : List KeytabEntry → List ℕ
written entries = 5 ∷ 2 ∷ flat_map written_item entries

-- octets whose length fits two octets
abbrev pub is_short : List ℕ → Bool
is_short octets = nat_lt (length octets) (2 ^ 16)

-- the number of octets of components, each after its length
abbrev pub sizes : List (List ℕ) → ℕ
sizes [] = 0
sizes (part ∷ parts) = (2 + length part) + sizes parts

-- the number of octets of an entry as it is written
abbrev pub size_of : KeytabEntry → ℕ
size_of entry = (21 + length entry.realm + length entry.key) + sizes entry.components

-- each length and the count of components fit two octets
abbrev pub has_short_parts : KeytabEntry → Bool
has_short_parts entry = is_short entry.realm && (is_short entry.key && (nat_lt (length entry.components) (2 ^ 16) && list_all is_short entry.components))

-- an entry can be written so: it has short parts and a version, and its size fits four octets as a positive number
abbrev pub can_be_written : KeytabEntry → Bool
can_be_written entry = has_short_parts entry && (not (entry.version == 0) && nat_lt (size_of entry) (2 ^ 31))

abbrev pub can_all_be_written : List KeytabEntry → Bool
can_all_be_written entries = list_all can_be_written entries
