-- Which credential of a cache is found.
use Rattle.std.specs.Prelude.{◌≡◌, ℕ, ◌<◌, ◌≤◌, ◌/◌, ◌%◌, ◌^◌, Bool, true, false, not, ◌&&◌, ◌||◌, List, [], ◌∷◌, ◌++◌, length, fold, Option, Some, None, nat_lt, nat_le, ◌==◌, if◌then◌else◌, All}
use Rattle.std.specs.Cmp.Lexicographic.{pointwise}
use Rattle.std.specs.Option.{option_or}
use Rattle.krb_ccache.specs.declared.principal.CcachePrincipal.{CcachePrincipal}
use Rattle.krb_ccache.specs.declared.credential.SessionKey.{SessionKey}
use Rattle.krb_ccache.specs.declared.credential.Times.{Times}
use Rattle.krb_ccache.specs.declared.credential.Credential.{Credential}

abbrev pub same_octets : List ℕ → List ℕ → Bool
same_octets a b = pointwise ◌==◌ a b

abbrev pub same_names : List (List ℕ) → List (List ℕ) → Bool
same_names a b = pointwise (pointwise ◌==◌) a b

-- the same principal, whatever the type of its name
abbrev pub same_principal : CcachePrincipal → CcachePrincipal → Bool
same_principal a b = same_octets a.realm b.realm && same_names a.components b.components

-- X-CACHECONF:, the realm of the options of a cache
abbrev pub option_realm : List ℕ
option_realm = 0x58 ∷ 0x2d ∷ 0x43 ∷ 0x41 ∷ 0x43 ∷ 0x48 ∷ 0x45 ∷ 0x43 ∷ 0x4f ∷ 0x4e ∷ 0x46 ∷ 0x3a ∷ []

abbrev pub is_option : Credential → Bool
is_option credential = same_octets credential.server.realm option_realm

-- a key of AES-256 or AES-128, of its length
abbrev pub is_known_key : SessionKey → Bool
is_known_key key = (key.key_type == 18 && length key.octets == 32) || (key.key_type == 17 && length key.octets == 16)

-- from when the ticket is valid: where that is not told, since its client was authenticated
abbrev pub start_of : Times → ℕ
start_of times = if times.start == 0 then times.authenticated else times.start

-- the ticket is valid in this second
abbrev pub is_valid : Times → ℕ → Bool
is_valid times seconds = nat_le (start_of times) seconds && nat_lt seconds times.end

-- the flag INVALID (RFC 4120, section 5.3), the eighth of 32
abbrev pub is_invalid : ℕ → Bool
is_invalid flags = flags / 2 ^ 24 % 2 == 1

-- A query: a ticket of this client for a service of these components, in any realm, in this second.
pub record Wanted : Type 0 where
  pub client : CcachePrincipal
  pub components : List (List ℕ)
  pub seconds : ℕ

-- a ticket that a client can use by itself: it is of that client and for that service, no option, not encrypted under a session key,
-- valid, and its key is a known one
abbrev pub is_wanted : Wanted → Credential → Bool
is_wanted wanted credential =
    same_names credential.server.components wanted.components && same_principal credential.client wanted.client && not (is_option credential)
    && credential.is_skey == 0 && not (is_invalid credential.flags) && is_valid credential.times wanted.seconds && is_known_key credential.key

-- of two credentials the one that is valid for longer, of equals the later
abbrev pub longer : Option Credential → Credential → Credential
longer None credential = credential
longer (Some best) credential = if nat_lt credential.times.end best.times.end then best else credential

-- of the credentials that pass the test the one that is valid for longest, of equals the last
unfoldable pub longest : (Credential → Bool) → List Credential → Option Credential
longest passes credentials = fold (λ best credential. if passes credential then Some (longer best credential) else best) None credentials

-- the components of the ticket-granting service of a realm
abbrev pub tgs_components : List ℕ → List (List ℕ)
tgs_components realm = (0x6b ∷ 0x72 ∷ 0x62 ∷ 0x74 ∷ 0x67 ∷ 0x74 ∷ []) ∷ realm ∷ []

-- a ticket of the cache's own client
abbrev pub wanted_of : CcachePrincipal → List (List ℕ) → ℕ → Wanted
wanted_of client components seconds = record { client = client; components = components; seconds = seconds }

abbrev pub found : CcachePrincipal → List Credential → List (List ℕ) → ℕ → Option Credential
found client credentials components seconds = longest (is_wanted (wanted_of client components seconds)) credentials

-- the ticket for the ticket-granting service of the client's own realm, by which the KDC of that realm gives further ones
abbrev pub found_tgt : CcachePrincipal → List Credential → ℕ → Option Credential
found_tgt client credentials seconds = found client credentials (tgs_components client.realm) seconds

-- the service's own ticket, or else that one
abbrev pub found_or_tgt : CcachePrincipal → List Credential → List (List ℕ) → ℕ → Option Credential
found_or_tgt client credentials components seconds = option_or (found client credentials components seconds) (found_tgt client credentials seconds)

-- The longest, as it is meant: it passes, none before it that passes is valid for longer, and each after it that passes ends earlier.
pub record IsLongest (passes : Credential → Bool) (credentials : List Credential) (credential : Credential) : Type 0 where
  pub before : List Credential
  pub behind : List Credential
  pub parts : credentials ≡ before ++ credential ∷ behind
  pub is : passes credential ≡ true
  pub no_longer : All (λ other. passes other ≡ true → other.times.end ≤ credential.times.end) before
  pub shorter : All (λ other. passes other ≡ true → other.times.end < credential.times.end) behind

abbrev pub FindsLongest : (Credential → Bool) → List Credential → Option Credential → Type 0
FindsLongest passes credentials None = All (λ credential. passes credential ≡ false) credentials
FindsLongest passes credentials (Some credential) = IsLongest passes credentials credential
