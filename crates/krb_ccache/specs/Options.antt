-- The options of a cache, as MIT krb5 describes them (doc/formats/ccache_file_format, "Cache configuration entries"): each is a
-- credential of the cache's own client, for a server of the realm X-CACHECONF: whose components name the option. Its value is in the
-- place of the ticket.
use Rattle.std.specs.Prelude.{ℕ, Bool, ◌&&◌, List, [], ◌∷◌, Option, Some, None, option_map}
use Rattle.std.specs.List.{find}
use Rattle.krb_ccache.specs.declared.principal.CcachePrincipal.{CcachePrincipal}
use Rattle.krb_ccache.specs.declared.credential.Credential.{Credential}
use Rattle.krb_ccache.specs.Finding.{same_names, same_principal, is_option}

-- krb5_ccache_conf_data, the first component of each option
abbrev pub conf_data : List ℕ
conf_data =
    0x6b ∷ 0x72 ∷ 0x62 ∷ 0x35 ∷ 0x5f ∷ 0x63 ∷ 0x63 ∷ 0x61 ∷ 0x63 ∷ 0x68 ∷ 0x65 ∷ 0x5f ∷ 0x63 ∷ 0x6f ∷ 0x6e ∷ 0x66 ∷ 0x5f ∷ 0x64 ∷ 0x61 ∷ 0x74 ∷ 0x61 ∷ []

-- the components of the option of this name, of the cache as a whole or of one principal, whose name is written as text
abbrev pub option_components : List ℕ → Option (List ℕ) → List (List ℕ)
option_components name None = conf_data ∷ name ∷ []
option_components name (Some principal) = conf_data ∷ name ∷ principal ∷ []

-- an entry is the option of this name, and of this principal
abbrev pub is_option_of : CcachePrincipal → List ℕ → Option (List ℕ) → Credential → Bool
is_option_of client name principal credential =
    is_option credential && same_names credential.server.components (option_components name principal) && same_principal credential.client client

abbrev pub first_option : CcachePrincipal → List ℕ → Option (List ℕ) → List Credential → Option Credential
first_option client name principal credentials = find (is_option_of client name principal) credentials

-- its value, of the first entry that is it
abbrev pub option_value : CcachePrincipal → List Credential → List ℕ → Option (List ℕ) → Option (List ℕ)
option_value client credentials name principal = option_map (λ credential. credential.ticket) (first_option client name principal credentials)
