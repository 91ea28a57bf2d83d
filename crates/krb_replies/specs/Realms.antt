-- The realm that a KDC refers to, by the clear name of the ticket that it gave (RFC 6806, section 8).
use Rattle.std.specs.Prelude.{ℕ, List, [], ◌∷◌, Option, Some, None, codes, bytes_eq, if◌then◌else◌}
use Rattle.std.specs.Str.{str_to_ascii_lowercase}
use Rattle.krb_messages.specs.declared.principal_name.PrincipalName.{PrincipalName}

-- the second of two components, where the first is krbtgt in letters of either case
abbrev pub realm_in : List (List ℕ) → Option (List ℕ)
realm_in [] = None
realm_in (service ∷ []) = None
realm_in (service ∷ (realm ∷ [])) = if bytes_eq (str_to_ascii_lowercase service) (codes "krbtgt") then Some realm else None
realm_in (service ∷ (realm ∷ (more ∷ rest))) = None

unfoldable pub referral_realm : PrincipalName → Option (List ℕ)
referral_realm name = realm_in name.name_string
