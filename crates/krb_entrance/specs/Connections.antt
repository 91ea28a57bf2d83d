-- The connections of clients.
use Rattle.std.specs.Prelude.{◌≡◌, ℕ, List, [], take, drop, Option, Some, None, option_map}
use Rattle.std.specs.Int.{from_be_bytes, w32}
use Rattle.krb_conf.specs.declared.config.KerberosConfig.{KerberosConfig}
use Rattle.krb_context.specs.Contexts.{new_context}
use Rattle.krb_context.specs.Params.{default_params}
use Rattle.krb_context.specs.Rules.{rfc_rules}
use Rattle.krb_context.specs.declared.context.Kerberos.{Kerberos}
use Rattle.krb_context.specs.declared.server.ServerProperties.{ServerProperties}
use Rattle.sspi_core.specs.declared.draw.Draw.{Draw}

-- a new connection with these properties, which goes by the RFCs, over a channel with this hash of its bindings where there is one
abbrev pub new_connection : KerberosConfig → ServerProperties → Option (List ℕ) → ℕ → Kerberos
new_connection config own channel number = record (new_context (default_params 22 24) config (Some own) number) { rules = rfc_rules; channel = channel }

-- the first sequence number: the octets 60 to 63 of the 64 random ones, the highest first; nothing else is made of these
abbrev pub drawn_number : Draw → ℕ
drawn_number draw = from_be_bytes w32 (take 4 (drop 60 draw.random))

-- a connection with these properties that waits for its client's token, with this first sequence number
pub record WaitsAt (own : ServerProperties) (channel : Option (List ℕ)) (number : ℕ) (connection : Kerberos) : Type 0 where
  pub config : KerberosConfig
  pub waits : connection ≡ new_connection config own channel number

-- its first sequence number is drawn
abbrev pub Waits : ServerProperties → Option (List ℕ) → Draw → Kerberos → Type 0
Waits own channel draw connection = WaitsAt own channel (drawn_number draw) connection

-- the properties with the primary name alone: no key, no further name, and no user
abbrev pub keyless : ServerProperties → ServerProperties
keyless properties = record properties { user = None; ticket_decryption_key = None; additional_service_keys = [] }

-- a connection has no key of a service
pub record IsKeyless (connection : Kerberos) : Type 0 where
  pub own : ServerProperties
  pub has : connection.server ≡ Some own
  pub primary : own.ticket_decryption_key ≡ None
  pub further : own.additional_service_keys ≡ []

-- the connection with the keys that it had been judged with
abbrev pub lent : ServerProperties → Kerberos → Kerberos
lent properties connection = record connection { server = option_map (λ (own : ServerProperties). record properties { client = own.client }) connection.server }
