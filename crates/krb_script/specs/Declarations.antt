-- The lines before the first event: what each declares.
use Rattle.std.specs.Prelude.{ℕ, refl, if◌then◌else◌, List, [], ◌∷◌, codes, Option, Some, None}
use Rattle.std.specs.Str.{bytes_eq}
use Rattle.krb_conf.specs.Kdc.{with_protocol}
use Rattle.krb_conf.specs.Kdc as kdc
use Rattle.sspi_core.specs.Usernames.{UserName, parsed}
use Rattle.sspi_core.specs.declared.identity.KeytabIdentity.{KeytabIdentity}
use Rattle.sspi_core.specs.declared.identity.CredentialsBuffers.TheVariants.{AuthIdentity, Keytab}
use Rattle.url.specs.Parts.{Parts}
use Rattle.krb_text.specs.Decimals.{decimal_up_to, u32_of}
use Rattle.krb_der.specs.Reading.{◌>>=◌}
use Rattle.krb_script.specs.Fields.{octets_of, text_of, name_of, optional_name_of, name_or_none_of}
use Rattle.krb_script.specs.Endpoints.{new_endpoint}
use Rattle.krb_script.specs.declared.endpoint.Role.TheVariants.{Acceptor, Initiator}
use Rattle.krb_script.specs.declared.endpoint.Attribute.TheVariants.{Key, Credentials, Kdc}
use Rattle.krb_script.specs.declared.declaration.Declaration.{Declaration}
use Rattle.krb_script.specs.declared.declaration.Declaration.TheVariants.{Skew, Variable, File, Endpoint as EndpointLine, Attribute as AttributeLine}

-- skew <seconds>
abbrev pub skew_of : List (List ℕ) → Option Declaration
skew_of (seconds ∷ []) = do
  value ← decimal_up_to 86400 seconds
  Some (Skew value)
skew_of _ = None

-- env <name> <hex?>
abbrev pub variable_of : List (List ℕ) → Option Declaration
variable_of (name_text ∷ value_text ∷ []) = do
  name ← name_of name_text
  value ← text_of value_text
  Some (Variable name value)
variable_of _ = None

-- file <path> <hex?>
abbrev pub file_of : List (List ℕ) → Option Declaration
file_of (path_text ∷ contents_text ∷ []) = do
  path ← name_of path_text
  contents ← text_of contents_text
  Some (File path contents)
file_of _ = None

-- acceptor <id> <number> <host> <service>
abbrev pub acceptor_of : List (List ℕ) → Option Declaration
acceptor_of (id_text ∷ number_text ∷ host_text ∷ service_text ∷ []) = do
  id ← u32_of id_text
  number ← u32_of number_text
  host ← name_of host_text
  service ← name_of service_text
  Some (EndpointLine id (new_endpoint (Acceptor service) number host))
acceptor_of _ = None

-- initiator <id> <number> <host> <target?>
abbrev pub initiator_of : List (List ℕ) → Option Declaration
initiator_of (id_text ∷ number_text ∷ host_text ∷ target_text ∷ []) = do
  id ← u32_of id_text
  number ← u32_of number_text
  host ← name_of host_text
  target ← optional_name_of target_text
  Some (EndpointLine id (new_endpoint (Initiator target) number host))
initiator_of _ = None

-- key <id> <service> <hex>
abbrev pub key_of : List (List ℕ) → Option Declaration
key_of (id_text ∷ service_text ∷ octets_text ∷ []) = do
  id ← u32_of id_text
  service ← name_of service_text
  octets ← octets_of octets_text
  Some (AttributeLine id (Key (record { service = service; octets = octets })))
key_of _ = None

-- password <id> <user> <domain?> <hex?>
abbrev pub password_of : List (List ℕ) → Option Declaration
password_of (id_text ∷ user_text ∷ domain_text ∷ password_text ∷ []) = do
  id ← u32_of id_text
  user ← name_of user_text
  domain ← name_or_none_of domain_text
  password ← text_of password_text
  Some (AttributeLine id (Credentials (AuthIdentity (record { user = user; domain = domain; password = password }))))
password_of _ = None

-- a principal, by its name
abbrev pub username_of : List ℕ → Option UserName
username_of text = do
  name ← name_of text
  parsed name

-- a principal with a key for aes128-cts-hmac-sha1-96, whose number is 17, or aes256-cts-hmac-sha1-96, 18 (RFC 3962, section 7)
abbrev pub keytab_identity : List ℕ → UserName → List ℕ → Option KeytabIdentity
keytab_identity enctype principal key =
    if bytes_eq enctype (codes "17") then Some (record { principal = principal; key = key; key_enctype = 17; known = refl })
    else if bytes_eq enctype (codes "18") then Some (record { principal = principal; key = key; key_enctype = 18; known = refl })
    else None

-- keytab <id> <principal> <17 or 18> <hex>
abbrev pub keytab_of : List (List ℕ) → Option Declaration
keytab_of (id_text ∷ principal_text ∷ enctype_text ∷ octets_text ∷ []) = do
  id ← u32_of id_text
  principal ← username_of principal_text
  octets ← octets_of octets_text
  identity ← keytab_identity enctype_text principal octets
  Some (AttributeLine id (Credentials (Keytab identity)))
keytab_of _ = None

-- the URL of an address, which is reached over TCP if it names no protocol
abbrev pub url_of : List ℕ → Option Parts
url_of text = do
  address ← name_of text
  kdc.url_of (with_protocol address)

-- kdc <id> <url>
abbrev pub kdc_of : List (List ℕ) → Option Declaration
kdc_of (id_text ∷ address_text ∷ []) = do
  id ← u32_of id_text
  url ← url_of address_text
  Some (AttributeLine id (Kdc url))
kdc_of _ = None

-- the declaration of a line before the first event, by its word
unfoldable pub declaration_of : List ℕ → List (List ℕ) → Option Declaration
declaration_of word rest =
    if bytes_eq word (codes "skew") then skew_of rest
    else if bytes_eq word (codes "env") then variable_of rest
    else if bytes_eq word (codes "file") then file_of rest
    else if bytes_eq word (codes "acceptor") then acceptor_of rest
    else if bytes_eq word (codes "initiator") then initiator_of rest
    else if bytes_eq word (codes "key") then key_of rest
    else if bytes_eq word (codes "password") then password_of rest
    else if bytes_eq word (codes "keytab") then keytab_of rest
    else if bytes_eq word (codes "kdc") then kdc_of rest
    else None
