-- The table of lines: what each says.
use Rattle.std.specs.Prelude.{ℕ, ◌-◌, ◌^◌, if◌then◌else◌, List, [], ◌∷◌, codes, Option, Some, None, option_map}
use Rattle.std.specs.Str.{bytes_eq}
use Rattle.krb_text.specs.Decimals.{decimal_up_to}
use Rattle.krb_text.specs.Lines.{fields}
use Rattle.krb_der.specs.Reading.{◌>>=◌}
use Rattle.krb_script.specs.Fields.{octets_of, octets_or_none_of, name_of, random_of}
use Rattle.krb_realm.specs.Fields.{components_in, suite_in}
use Rattle.krb_realm.specs.declared.item.RealmLine.{RealmLine}
use Rattle.krb_realm.specs.declared.item.Entry.{Entry}
use Rattle.krb_realm.specs.declared.item.Entry.TheVariants.{Password, Key, Trust, Route}
use Rattle.krb_realm.specs.declared.item.Request.{Request}
use Rattle.krb_realm.specs.declared.item.Item.{Item}
use Rattle.krb_realm.specs.declared.item.Item.TheVariants.{Realm as RealmItem, Entry as EntryItem, Request as RequestItem}

-- a key or a password, in hex
abbrev pub secret_of : List ℕ → Option (List ℕ)
secret_of text = octets_of text

-- realm <realm> <17 or 18> <skew> <hex>
abbrev pub realm_line_of : List (List ℕ) → Option RealmLine
realm_line_of (name_text ∷ suite_text ∷ skew_text ∷ key_text ∷ []) = do
  name ← name_of name_text
  suite ← suite_in suite_text
  skew ← decimal_up_to 86400 skew_text
  key ← secret_of key_text
  Some (record { name = name; suite = suite; skew = skew; tgt_key = key })
realm_line_of _ = None

-- password <principal> <hex>
abbrev pub password_of : List (List ℕ) → Option Entry
password_of (principal_text ∷ password_text ∷ []) = do
  components ← components_in principal_text
  password ← secret_of password_text
  Some (Password components password)
password_of _ = None

-- key <principal> <hex>
abbrev pub key_of : List (List ℕ) → Option Entry
key_of (principal_text ∷ key_text ∷ []) = do
  components ← components_in principal_text
  key ← secret_of key_text
  Some (Key components key)
key_of _ = None

-- trust <realm> <hex>
abbrev pub trust_of : List (List ℕ) → Option Entry
trust_of (realm_text ∷ key_text ∷ []) = do
  realm ← name_of realm_text
  key ← secret_of key_text
  Some (Trust realm key)
trust_of _ = None

-- route <service> <realm>
abbrev pub route_of : List (List ℕ) → Option Entry
route_of (service_text ∷ realm_text ∷ []) = do
  service ← components_in service_text
  realm ← name_of realm_text
  Some (Route service realm)
route_of _ = None

-- request <moment> <128 hex digits> <hex?>
abbrev pub request_in : List (List ℕ) → Option Request
request_in (moment_text ∷ random_text ∷ octets_text ∷ []) = do
  moment ← decimal_up_to (2 ^ 64 - 1) moment_text
  random ← random_of random_text
  octets ← octets_or_none_of octets_text
  Some (record { draw = record { moment = moment; random = random }; octets = octets })
request_in _ = None

-- what a line adds to the realm, by its word
abbrev pub entry_of : List ℕ → List (List ℕ) → Option Entry
entry_of word rest =
    if bytes_eq word (codes "password") then password_of rest
    else if bytes_eq word (codes "key") then key_of rest
    else if bytes_eq word (codes "trust") then trust_of rest
    else if bytes_eq word (codes "route") then route_of rest
    else None

-- what a line says, by its word
abbrev pub item_of_fields : List (List ℕ) → Option Item
item_of_fields [] = None
item_of_fields (word ∷ rest) =
    if bytes_eq word (codes "realm") then option_map RealmItem (realm_line_of rest)
    else if bytes_eq word (codes "request") then option_map RequestItem (request_in rest)
    else option_map EntryItem (entry_of word rest)

abbrev pub item_of : List ℕ → Option Item
item_of line = item_of_fields (fields line)
