-- The values that a context reports about itself.
use Rattle.std.specs.Prelude.{ℕ, ◌+◌, Bool, true, false, ◌&&◌, Option, Some, None, is_none, option_map, option_and_then, Result, Ok, Err, codes, if◌then◌else◌}
use Rattle.sspi_core.specs.Checks.{ok_or}
use Rattle.sspi_core.specs.CredentialBuffers.{buffers_of}
use Rattle.sspi_core.specs.Identities.{named}
use Rattle.sspi_core.specs.Usernames.{UserName}
use Rattle.sspi_core.specs.declared.cause.Cause.{Cause}
use Rattle.sspi_core.specs.declared.cause.Cause.TheVariants.{BadUser, NoIdentity}
use Rattle.sspi_core.specs.declared.identity.Credentials.{Credentials}
use Rattle.sspi_core.specs.declared.identity.CredentialsBuffers.{CredentialsBuffers}
use Rattle.sspi_core.specs.declared.identity.CredentialsBuffers.TheVariants.{AuthIdentity, Keytab}
use Rattle.sspi_core.specs.declared.results.ContextSizes.{ContextSizes}
use Rattle.sspi_core.specs.declared.results.CredentialUse.{CredentialUse}
use Rattle.sspi_core.specs.declared.results.CredentialUse.TheVariants.{Inbound, Outbound, Both}
use Rattle.sspi_core.specs.declared.results.PackageInfo.{PackageInfo}
use Rattle.krb_context.specs.declared.context.Kerberos.{Kerberos}

-- the description of the package
abbrev pub kerberos_package : PackageInfo
kerberos_package = record {
  capabilities = 0;
  rpc_id = 65535;
  max_token_len = 48000;
  name = codes "Kerberos";
  comment = codes "Kerberos Security Package";
}

-- the sizes of a context with this extra count (EC)
abbrev pub sizes_of : ℕ → ContextSizes
sizes_of ec = record { max_token = 48000; max_signature = 16; block = 0; security_trailer = 60 + ec }

-- the name of the user that a context speaks for; a keytab has no user name
abbrev pub own_name : Option CredentialsBuffers → Result UserName Cause
own_name None = Err NoIdentity
own_name (Some (AuthIdentity identity)) = ok_or BadUser (named identity.user identity.domain)
own_name (Some (Keytab identity)) = Err NoIdentity

abbrev pub name_by : Option UserName → Option CredentialsBuffers → Result UserName Cause
name_by (Some client) identity = Ok client
name_by None identity = own_name identity

-- the admitted client, otherwise the user that the context speaks for
abbrev pub name_of : Kerberos → Result UserName Cause
name_of context = name_by (option_and_then (λ server. server.client) context.server) context.auth_identity

abbrev pub is_outbound : CredentialUse → Bool
is_outbound Inbound = false
is_outbound Outbound = true
is_outbound Both = false

-- the identity that credentials give, which one who is to be admitted must have
abbrev pub handle_of : CredentialUse → Option Credentials → Result (Option CredentialsBuffers) Cause
handle_of purpose auth = if is_outbound purpose && is_none auth then Err NoIdentity else Ok (option_map buffers_of auth)
