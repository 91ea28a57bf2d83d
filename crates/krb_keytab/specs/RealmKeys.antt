-- The entries of a realm in maps by their names; private functions have their contracts in these words.
use Rattle.std.specs.Prelude.{◌≡◌, ℕ, Bool, List, Option, Some, None, option_map, if◌then◌else◌}
use Rattle.std.specs.Borrow.{Bor}
use Rattle.indexmap.specs.IndexMap.{IndexMap, get}
use Rattle.krb_crypto.specs.Suite.{suite_number, key_size}
use Rattle.krb_crypto.specs.declared.suite.CipherSuite.{CipherSuite}
use Rattle.krb_messages.specs.declared.principal_name.PrincipalName.{PrincipalName}
use Rattle.krb_context.specs.Params.{or_else}
use Rattle.krb_context.specs.ServiceKeys.{service_named}
use Rattle.krb_keytab.specs.declared.entry.KeytabEntry.{KeytabEntry}
use Rattle.krb_keytab.specs.declared.realm_keys.RealmKeys.{RealmKeys}
use Rattle.krb_keytab.specs.Finding.{Wanted, same_names, is_wanted, greater, greatest}

-- the components of a name, where they lie in an entry
abbrev pub LentName : Type 0
LentName = Bor (List (List ℕ))

abbrev pub same_name : LentName → LentName → Bool
same_name a b = same_names a.now b.now

-- what is asked for under a name: an entry of the realm with a key of the suite
abbrev pub asked : List ℕ → CipherSuite → List (List ℕ) → Wanted
asked realm suite components = record { realm = realm; components = components; key_type = suite_number suite; version = None; size = Some (key_size suite) }

-- the greatest so far, after one more entry
abbrev pub greatest_with : (KeytabEntry → Bool) → Option KeytabEntry → KeytabEntry → Option KeytabEntry
greatest_with passes best entry = if passes entry then Some (greater best entry) else best

-- what a map has at a name
abbrev pub found_at : {S : Type 0} → IndexMap LentName (Bor KeytabEntry) S → LentName → Option KeytabEntry
found_at found name = option_map (λ entry. entry.now) (get same_name found name)

-- at each name the map has the greatest of the entries that are asked for
abbrev pub HasGreatest : {S : Type 0} → List ℕ → CipherSuite → List KeytabEntry → IndexMap LentName (Bor KeytabEntry) S → Type 0
HasGreatest realm suite entries found = (name : LentName) → found_at found name ≡ greatest (is_wanted (asked realm suite name.now)) entries

-- the key at a name: one of AES-256, otherwise one of AES-128
abbrev pub key_at : RealmKeys → LentName → Option (List ℕ)
key_at keys name = or_else (option_map (λ entry. entry.key) (found_at keys.aes256 name)) (option_map (λ entry. entry.key) (found_at keys.aes128 name))

-- the same, with the name as one of a service
abbrev pub pair_at : RealmKeys → LentName → Option (PrincipalName × List ℕ)
pair_at keys name = option_map (λ key. (service_named name.now, key)) (key_at keys name)
