-- The printed entries of a keytab: all but their keys.
use Rattle.std.specs.Prelude.{ℕ, ◌==◌, if◌then◌else◌, List, ◌++◌, codes}
use Rattle.std.specs.Fmt.{decimal}
use Rattle.std.specs.List.{flat_map}
use Rattle.krb_keytab.specs.declared.entry.KeytabEntry.{KeytabEntry}
use Rattle.krb_keys.specs.Names.{principal_text}

-- the name of an encryption type in IANA's registry of Kerberos encryption type numbers
abbrev pub type_name : ℕ → List ℕ
type_name number =
    if number == 1 then codes "des-cbc-crc" else
    if number == 2 then codes "des-cbc-md4" else
    if number == 3 then codes "des-cbc-md5" else
    if number == 16 then codes "des3-cbc-sha1-kd" else
    if number == 17 then codes "aes128-cts-hmac-sha1-96" else
    if number == 18 then codes "aes256-cts-hmac-sha1-96" else
    if number == 19 then codes "aes128-cts-hmac-sha256-128" else
    if number == 20 then codes "aes256-cts-hmac-sha384-192" else
    if number == 23 then codes "rc4-hmac" else
    if number == 24 then codes "rc4-hmac-exp" else
    if number == 25 then codes "camellia128-cts-cmac" else
    if number == 26 then codes "camellia256-cts-cmac" else
    codes "unknown"

-- the version, the type of the name, the encryption type by its name and its number, and the time
abbrev pub numbers_text : KeytabEntry → List ℕ
numbers_text entry =
    decimal entry.version ++ (codes " " ++ (decimal entry.name_type ++ (codes " " ++ (type_name entry.key_type ++ (codes " "
    ++ (decimal entry.key_type ++ (codes " " ++ (decimal entry.time ++ codes " "))))))))

-- the line of an entry
abbrev pub entry_line : KeytabEntry → List ℕ
entry_line entry = numbers_text entry ++ (principal_text entry.components entry.realm ++ codes "\n")

-- a line for each entry, in their order
abbrev pub list_text : List KeytabEntry → List ℕ
list_text entries = flat_map entry_line entries
