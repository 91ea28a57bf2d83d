-- The ends of connections, as their lines declare them.
use Rattle.std.specs.Prelude.{ℕ, Bool, true, false, if◌then◌else◌, List, [], ◌∷◌, ◌++◌, Option, Some, None, is_some}
use Rattle.krb_script.specs.Options.{if_so}
use Rattle.krb_script.specs.declared.endpoint.Role.{Role}
use Rattle.krb_script.specs.declared.endpoint.Role.TheVariants.{Acceptor, Initiator}
use Rattle.krb_script.specs.declared.endpoint.Endpoint.{Endpoint}
use Rattle.krb_script.specs.declared.endpoint.Attribute.{Attribute}
use Rattle.krb_script.specs.declared.endpoint.Attribute.TheVariants.{Key, Credentials, Kdc}

abbrev pub is_acceptor : Role → Bool
is_acceptor (Acceptor service) = true
is_acceptor (Initiator target) = false

-- an end of which one line is known
abbrev pub new_endpoint : Role → ℕ → List ℕ → Endpoint
new_endpoint role number host = record { role = role; number = number; host = host; keys = []; credentials = None; kdc_url = None }

-- an end after a line adds to it: only an acceptor has keys; credentials and a URL are set at most once
abbrev pub with_attribute : Endpoint → Attribute → Option Endpoint
with_attribute endpoint (Key key) = if_so (is_acceptor endpoint.role) (Some (record endpoint { keys = endpoint.keys ++ key ∷ [] }))
with_attribute endpoint (Credentials credentials) = if is_some endpoint.credentials then None else Some (record endpoint { credentials = Some credentials })
with_attribute endpoint (Kdc url) = if is_some endpoint.kdc_url then None else Some (record endpoint { kdc_url = Some url })
