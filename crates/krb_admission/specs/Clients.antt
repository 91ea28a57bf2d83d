-- The name by which an admitted client is known.
use Rattle.std.specs.Prelude.{ℕ, ◌==◌, Bool, true, false, ◌&&◌, ◌||◌, List, [], ◌∷◌, Option, None, is_some, if◌then◌else◌}
use Rattle.std.specs.Str.{str_to_ascii_lowercase}
use Rattle.krb_context.specs.Rules.{has_rule, clients_of_any_name}
use Rattle.krb_context.specs.declared.rules.Rules.{Rules}
use Rattle.krb_messages.specs.declared.principal_name.PrincipalName.{PrincipalName}
use Rattle.sspi_core.specs.Usernames.{UserName, UserPrincipal, user_name, parsed}

-- NT-PRINCIPAL: the first component, at the realm in lower case. NT-ENTERPRISE: the first component unchanged (RFC 4120, section 6.2)
abbrev pub named_by : List ℕ → List ℕ → List ℕ → Option UserName
named_by [] first realm = None
named_by (t ∷ []) first realm =
    if t == 1 then user_name (UserPrincipal first (str_to_ascii_lowercase realm)) else if t == 10 then parsed first else None
named_by (t ∷ u ∷ more) first realm = None

abbrev pub client_by : List ℕ → List (List ℕ) → List ℕ → Option UserName
client_by name_type [] realm = None
client_by name_type (first ∷ rest) realm = named_by name_type first realm

-- the client of this name and realm, if it is known by one
unfoldable pub client_of : PrincipalName → List ℕ → Option UserName
client_of name realm = client_by name.name_type name.name_string realm

-- if clients of any name are admitted, only NT-PRINCIPAL of one component gives a user name, so that none names another client
abbrev pub account_by : List ℕ → List (List ℕ) → List ℕ → Option UserName
account_by (t ∷ []) (account ∷ []) realm = if t == 1 then user_name (UserPrincipal account (str_to_ascii_lowercase realm)) else None
account_by name_type name_string realm = None

-- the user name that an acceptor has of its client
abbrev pub user_of : Rules → PrincipalName → List ℕ → Option UserName
user_of rules name realm = if has_rule rules clients_of_any_name then account_by name.name_type name.name_string realm else client_of name realm

abbrev pub has_component : List (List ℕ) → Bool
has_component [] = false
has_component (first ∷ rest) = true

-- the client has a name that is known here: a user name, or if any name is admitted, one with a component
abbrev pub is_known_client : Rules → PrincipalName → List ℕ → Bool
is_known_client rules name realm = if has_rule rules clients_of_any_name then has_component name.name_string else is_some (client_of name realm)
