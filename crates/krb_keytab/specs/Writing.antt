-- An entry as it is written, in two parts; private functions have their contracts in these words.
use Rattle.std.specs.Prelude.{ℕ, ◌%◌, List, [], ◌∷◌, ◌++◌, length}
use Rattle.std.specs.List.{flat_map}
use Rattle.std.specs.Int.{w16, w32, to_be_bytes}
use Rattle.krb_keytab.specs.declared.entry.KeytabEntry.{KeytabEntry}
use Rattle.krb_keytab.specs.Format.{counted}

unfoldable pub names_octets : KeytabEntry → List ℕ
names_octets entry = to_be_bytes w16 (length entry.components) ++ (counted entry.realm ++ flat_map counted entry.components)

unfoldable pub tail_octets : KeytabEntry → List ℕ
tail_octets entry =
    to_be_bytes w32 entry.name_type ++ (to_be_bytes w32 entry.time
    ++ ((entry.version % 256 ∷ []) ++ (to_be_bytes w16 entry.key_type ++ (counted entry.key ++ to_be_bytes w32 entry.version))))
