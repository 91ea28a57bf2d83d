-- The context that a configuration makes.
use Rattle.std.specs.Prelude.{ℕ, Some, None}
use Rattle.krb_context.specs.declared.config.ProtocolConfig.{ProtocolConfig}
use Rattle.krb_context.specs.declared.config.ProtocolConfig.TheVariants.{Client, Server}
use Rattle.krb_context.specs.declared.context.Kerberos.{Kerberos}
use Rattle.krb_context.specs.Contexts.{new_context}
use Rattle.krb_context.specs.Params.{default_params}

abbrev pub instance_of : ProtocolConfig → ℕ → Kerberos
instance_of (Client config) number = new_context (default_params 24 22) config None number
instance_of (Server config) number = new_context (default_params 22 24) config.kerberos_config (Some config.server_properties) number
