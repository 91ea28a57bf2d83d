-- Which keys of a realm are installed, and where.
use Rattle.std.specs.Prelude.{ℕ, Bool, not, ◌&&◌, List, [], ◌∷◌, ◌++◌, fold, Option, Some, None, option_map, if◌then◌else◌}
use Rattle.std.specs.List.{list_any, flat_map}
use Rattle.std.specs.Option.{option_to_list}
use Rattle.krb_crypto.specs.Suite.{suite_number, key_size}
use Rattle.krb_crypto.specs.declared.suite.CipherSuite.{CipherSuite}
use Rattle.krb_crypto.specs.declared.suite.CipherSuite.TheVariants.{Aes128CtsHmacSha196, Aes256CtsHmacSha196}
use Rattle.krb_messages.specs.declared.principal_name.PrincipalName.{PrincipalName}
use Rattle.krb_context.specs.declared.server.ServerProperties.{ServerProperties}
use Rattle.krb_context.specs.Params.{or_else}
use Rattle.krb_context.specs.ServiceKeys.{service_named}
use Rattle.krb_keytab.specs.declared.entry.KeytabEntry.{KeytabEntry}
use Rattle.krb_keytab.specs.Finding.{Wanted, same_octets, same_names, is_wanted, greatest}

-- whether an entry is of the realm and its name is not among these
abbrev pub is_new : List ℕ → List (List (List ℕ)) → KeytabEntry → Bool
is_new realm names entry = same_octets entry.realm realm && not (list_any (λ name. same_names name entry.components) names)

-- names with the one of this entry, where it is new
abbrev pub names_with : List ℕ → List (List (List ℕ)) → KeytabEntry → List (List (List ℕ))
names_with realm names entry = if is_new realm names entry then names ++ entry.components ∷ [] else names

-- each name of the realm once, in the order of their first entries
unfoldable pub names_of : List ℕ → List KeytabEntry → List (List (List ℕ))
names_of realm entries = fold (λ names entry. names_with realm names entry) [] entries

-- the key of the greatest version of this type with this number of octets
abbrev pub sized_key : List KeytabEntry → List ℕ → List (List ℕ) → ℕ → ℕ → Option (List ℕ)
sized_key entries realm components key_type size =
    let wanted : Wanted = record { realm = realm; components = components; key_type = key_type; version = None; size = Some size } in
    option_map (λ entry. entry.key) (greatest (is_wanted wanted) entries)

-- the key of a suite: of its type, and of its size
abbrev pub suite_key : List KeytabEntry → List ℕ → List (List ℕ) → CipherSuite → Option (List ℕ)
suite_key entries realm components suite = sized_key entries realm components (suite_number suite) (key_size suite)

-- the key of a name: one of AES-256, otherwise one of AES-128
abbrev pub key_for : List KeytabEntry → List ℕ → List (List ℕ) → Option (List ℕ)
key_for entries realm components = or_else (suite_key entries realm components Aes256CtsHmacSha196) (suite_key entries realm components Aes128CtsHmacSha196)

-- a name of two and more components is one of a service, type 2
abbrev pub service_key_of : List KeytabEntry → List ℕ → List (List ℕ) → Option (PrincipalName × List ℕ)
service_key_of entries realm components = option_map (λ key. (service_named components, key)) (key_for entries realm components)

-- the names of the realm that have a key, each with it
unfoldable pub keys_of : List ℕ → List KeytabEntry → List (PrincipalName × List ℕ)
keys_of realm entries = flat_map (λ name. option_to_list (service_key_of entries realm name)) (names_of realm entries)

-- the properties with further keys after the existing ones
abbrev pub with_keys : ServerProperties → List (PrincipalName × List ℕ) → ServerProperties
with_keys server keys = record server { additional_service_keys = server.additional_service_keys ++ keys }
