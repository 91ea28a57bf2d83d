-- The service that the lines describe, over the book that never forgets.
use Rattle.std.specs.Prelude.{◌≡◌, ℕ, ◌==◌, ◌&&◌, if◌then◌else◌, List, [], ◌∷◌, ◌++◌, map, fold, None, Some, is_none, unwrap_or}
use Rattle.std.specs.List.{slice_split}
use Rattle.std.specs.Str.{bytes_eq}
use Rattle.krb_conf.specs.declared.config.KerberosConfig.{KerberosConfig}
use Rattle.krb_conf.specs.declared.env.Env.{Env}
use Rattle.krb_context.specs.Contexts.{new_context}
use Rattle.krb_context.specs.Params.{default_params}
use Rattle.krb_context.specs.ServiceKeys.{service_named, new_properties}
use Rattle.krb_context.specs.declared.server.ServerProperties.{ServerProperties}
use Rattle.krb_messages.specs.declared.principal_name.PrincipalName.{PrincipalName}
use Rattle.krb_context.specs.declared.context.Kerberos.{Kerberos}
use Rattle.krb_replay.specs.History.{History, no_history, verdict_of, history_after}
use Rattle.krb_replay.specs.declared.ask.Ask.{Ask}
use Rattle.krb_replay.specs.declared.ask.Verdict.{Verdict}
use Rattle.krb_script.specs.Script.{Setup}
use Rattle.krb_script.specs.declared.endpoint.Endpoint.{Endpoint}
use Rattle.krb_script.specs.declared.endpoint.Role.{Role}
use Rattle.krb_script.specs.declared.endpoint.Role.TheVariants.{Acceptor, Initiator}
use Rattle.krb_script.specs.declared.endpoint.ServiceKey.{ServiceKey}
use Rattle.krb_machine.specs.declared.connection.Connection.{Connection}
use Rattle.krb_machine.specs.Policy.{State}

-- the gate that never forgets: it answers by every record that it ever admitted, at the greatest moment that it was asked
abbrev pub Remembers : ℕ → History → Ask → Verdict → History → Type 0
Remembers skew old ask verdict new = (verdict ≡ verdict_of skew old ask) × (new ≡ history_after skew old ask)

-- the skew that the lines set, 0 if none does
abbrev pub skew_of : Setup → ℕ
skew_of setup = unwrap_or setup.skew 0

-- the components of a service's name, with a `/` between two of them
abbrev pub components : List ℕ → List (List ℕ)
components service = slice_split (λ octet. octet == 0x2f) service

-- a key of a service, by the service's name
abbrev pub named_key : ServiceKey → PrincipalName × List ℕ
named_key key = (service_named (components key.service), key.octets)

-- the acceptor after one more line with a key: the first line for the acceptor's own service sets the primary key, each other line
-- adds a further key
abbrev pub with_key : List ℕ → ServerProperties → ServiceKey → ServerProperties
with_key service server key =
    if bytes_eq key.service service && is_none server.ticket_decryption_key then record server { ticket_decryption_key = Some key.octets }
    else record server { additional_service_keys = server.additional_service_keys ++ named_key key ∷ [] }

-- an acceptor's service, its user, and its keys
abbrev pub acceptor_properties : ℕ → List ℕ → Endpoint → ServerProperties
acceptor_properties skew service endpoint = fold (with_key service) (new_properties (components service) endpoint.credentials skew None) endpoint.keys

-- the configuration of an end: its host, and the URL of its KDC
abbrev pub config_of : Endpoint → KerberosConfig
config_of endpoint = record { kdc_url = endpoint.kdc_url; client_computer_name = endpoint.host }

-- an acceptor before its exchange
abbrev pub acceptor_context : ℕ → List ℕ → Endpoint → Kerberos
acceptor_context skew service endpoint =
    new_context (default_params 22 24) (config_of endpoint) (Some (acceptor_properties skew service endpoint)) endpoint.number

-- an initiator before its exchange, with its user
abbrev pub initiator_context : Endpoint → Kerberos
initiator_context endpoint = record (new_context (default_params 24 22) (config_of endpoint) None endpoint.number) { auth_identity = endpoint.credentials }

abbrev pub connection_in : ℕ → Endpoint → Role → Connection
connection_in skew endpoint (Acceptor service) = record { context = acceptor_context skew service endpoint; target = None; exchange = None }
connection_in skew endpoint (Initiator target) = record { context = initiator_context endpoint; target = target; exchange = None }

-- the connection of an end
abbrev pub connection_of : ℕ → Endpoint → Connection
connection_of skew endpoint = connection_in skew endpoint endpoint.role

abbrev pub connections_with : ℕ → List (ℕ × Endpoint) → List (ℕ × Connection)
connections_with skew endpoints = map (λ (entry : ℕ × Endpoint). (entry.0, connection_of skew entry.1)) endpoints

abbrev pub no_env : Env
no_env = record { vars = []; files = [] }

-- the connections that the lines declare
abbrev pub connections_of : Setup → List (ℕ × Connection)
connections_of setup = connections_with (skew_of setup) setup.endpoints

-- the service that the lines describe
abbrev pub service_of : Setup → State History
service_of setup = record { connections = connections_of setup; env = setup.env; gate = no_history }

-- the service over another gate
abbrev pub with_gate : {G H : Type 0} → State G → H → State H
with_gate state gate = record { connections = state.connections; env = state.env; gate = gate }
