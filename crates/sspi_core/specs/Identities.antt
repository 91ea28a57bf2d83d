-- A name and the two texts that represent it.
use Rattle.std.specs.Prelude.{ℕ, List, [], length, Option, Some, None, Bool, false, ◌==◌, if◌then◌else◌}
use Rattle.sspi_core.specs.Usernames.{UserName, UserPrincipal, DownLevel, user_name, parsed, upn_text}

-- the user of a name: a whole user principal name, or an account
abbrev pub user_text : UserName → List ℕ
user_text (UserPrincipal account suffix) = upn_text account suffix
user_text (DownLevel account domain) = account

abbrev pub text_or_empty : Option (List ℕ) → List ℕ
text_or_empty None = []
text_or_empty (Some text) = text

-- the domain of a name, empty where there is none
abbrev pub domain_text : UserName → List ℕ
domain_text (UserPrincipal account suffix) = []
domain_text (DownLevel account domain) = text_or_empty domain

-- the name of a user and a domain
abbrev pub named : List ℕ → List ℕ → Option UserName
named user domain = if length domain == 0 then parsed user else user_name (DownLevel user (Some domain))

abbrev pub is_empty_text : Option (List ℕ) → Bool
is_empty_text None = false
is_empty_text (Some text) = length text == 0

-- whether a name has a domain without octets, which the two texts do not distinguish from no domain
abbrev pub has_empty_domain : UserName → Bool
has_empty_domain (UserPrincipal account suffix) = false
has_empty_domain (DownLevel account domain) = is_empty_text domain
