-- The entries of a keyring under a name.
use Rattle.std.specs.Prelude.{ℕ, List, [], filter, Option, Some, None}
use Rattle.indexmap.specs.IndexMap.{IndexMap, get}
use Rattle.krb_keyring.specs.declared.keyring.Keyring.{Keyring}
use Rattle.krb_keyring.specs.declared.services.Entries.{Entries}
use Rattle.krb_keytab.specs.Finding.{same_names}
use Rattle.krb_keytab.specs.declared.entry.KeytabEntry.{KeytabEntry}

abbrev pub entries_in : Option Entries → List KeytabEntry
entries_in None = []
entries_in (Some entries) = entries.items.items

-- what a map has at the components of a name
abbrev pub held_in : {S : Type 0} → IndexMap (List (List ℕ)) Entries S → List (List ℕ) → List KeytabEntry
held_in services components = entries_in (get same_names services components)

-- the entries of a ring with these components, in the order in which they were added
abbrev pub held : Keyring → List (List ℕ) → List KeytabEntry
held ring components = held_in ring.services components

-- those of entries that have these components
abbrev pub named : List (List ℕ) → List KeytabEntry → List KeytabEntry
named components entries = filter (λ entry. same_names entry.components components) entries
