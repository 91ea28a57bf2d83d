-- The same, as functions that read from the front; private functions have their contracts in these words.
use Rattle.std.specs.Prelude.{ℕ, zero, suc, ◌-◌, ◌^◌, List, [], ◌∷◌, length, take, drop, Option, Some, None, nat_lt, ◌==◌, if◌then◌else◌}
use Rattle.std.specs.Int.{Width, w16, w32, byte_len, from_be_bytes}
use Rattle.krb_der.specs.Schema.{is_ascii}
use Rattle.krb_der.specs.Reading.{◌>>=◌, cut}
use Rattle.krb_keytab.specs.declared.entry.KeytabEntry.{KeytabEntry}
use Rattle.krb_keytab.specs.Format.{version_of}

-- a number and what follows it
abbrev pub number_at : Width → List ℕ → Option (ℕ × List ℕ)
number_at w octets = if nat_lt (length octets) (byte_len w) then None else Some (from_be_bytes w (take (byte_len w) octets), drop (byte_len w) octets)

abbrev pub octet_at : List ℕ → Option (ℕ × List ℕ)
octet_at [] = None
octet_at (first ∷ rest) = Some (first, rest)

unfoldable pub counted_at : List ℕ → Option (List ℕ × List ℕ)
counted_at octets = do
  size ← number_at w16 octets
  cut size.0 size.1

unfoldable pub part_at : List ℕ → Option (List ℕ × List ℕ)
part_at octets = do
  part ← counted_at octets
  if is_ascii part.0 then Some part else None

unfoldable pub parts_at : ℕ → List ℕ → Option (List (List ℕ) × List ℕ)
parts_at zero octets = Some ([], octets)
parts_at (suc count) octets = do
  part ← part_at octets
  parts ← parts_at count part.1
  Some (part.0 ∷ parts.0, parts.1)

-- the fields after the names of an entry
pub record Tail : Type 0 where
  pub name_type : ℕ
  pub time : ℕ
  pub version : ℕ
  pub key_type : ℕ
  pub key : List ℕ

unfoldable pub tail_in : List ℕ → Option Tail
tail_in octets = do
  name_type ← number_at w32 octets
  time ← number_at w32 name_type.1
  short ← octet_at time.1
  key_type ← number_at w16 short.1
  key ← counted_at key_type.1
  Some (record { name_type = name_type.0; time = time.0; version = version_of short.0 key.1; key_type = key_type.0; key = key.0 })

unfoldable pub entry_in : List ℕ → Option KeytabEntry
entry_in octets = do
  count ← number_at w16 octets
  realm ← part_at count.1
  components ← parts_at count.0 realm.1
  tail ← tail_in components.1
  Some (record {
    realm = realm.0;
    components = components.0;
    name_type = tail.name_type;
    time = tail.time;
    version = tail.version;
    key_type = tail.key_type;
    key = tail.key;
  })

-- The front of a file: its end, or an item, which may have an entry, and what follows it.
pub data Next : Type 0 where
  End : Next
  Item : Option KeytabEntry → List ℕ → Next

unfoldable pub entry_next : ℕ → List ℕ → Option Next
entry_next size octets = do
  body ← cut size octets
  entry ← entry_in body.0
  Some (Item (Some entry) body.1)

unfoldable pub hole_next : ℕ → List ℕ → Option Next
hole_next size octets = do
  body ← cut size octets
  Some (Item None body.1)

unfoldable pub sized_next : ℕ → List ℕ → Option Next
sized_next size octets =
    if size == 0 then Some End else
    if nat_lt size (2 ^ 31) then entry_next size octets else
    hole_next (2 ^ 32 - size) octets

unfoldable pub next_of : List ℕ → Option Next
next_of octets =
    if length octets == 0 then Some End else
    (do
      size ← number_at w32 octets
      sized_next size.0 size.1)
