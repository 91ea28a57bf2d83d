-- The names of a client and of a service.
use Rattle.std.specs.Prelude.{ℕ, List, [], ◌&&◌, ◌==◌, not, length, Option, Some, None, unwrap_or, if◌then◌else◌}
use Rattle.std.specs.List.{before_first, after_first}
use Rattle.sspi_core.specs.Usernames.{UserName, UserPrincipal, DownLevel, upn_text}
use Rattle.krb_conf.specs.Ascii.{at_sign, slash}
use Rattle.krb_conf.specs.Line.{has}

-- the name types of RFC 4120, section 6.2, and of RFC 6806, section 5
abbrev pub principal : ℕ
principal = 1

abbrev pub enterprise : ℕ
enterprise = 10

-- the type of a client's name in this text
abbrev pub name_type : List ℕ → ℕ
name_type username = if has at_sign username then enterprise else principal

-- the name of a user as a client, its realm's domain and its type
abbrev pub client_name : UserName → List ℕ × List ℕ × ℕ
client_name (UserPrincipal account suffix) = (upn_text account suffix, suffix, enterprise)
client_name (DownLevel account domain) = (account, unwrap_or domain [], principal)

-- the parts of a target's name round its first `/`, where neither is empty
abbrev pub target_parts : List ℕ → Option (List ℕ × List ℕ)
target_parts target =
    let service = before_first (λ octet. octet == slash) target in
    let host = after_first (λ octet. octet == slash) target in
    if has slash target && (not (length service == 0) && not (length host == 0)) then Some (service, host) else None
