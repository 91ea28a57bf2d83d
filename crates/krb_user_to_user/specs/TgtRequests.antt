-- A TGT-REQ at a service (draft-swift-win2k-krb-user2user, section 3), up to the request to the KDC.
use Rattle.std.specs.Prelude.{◌≤◌, ◌^◌, ◌==◌, ◌&&◌, Bool, true, false, length, Option, Some, None, Result}
use Rattle.std.specs.Cmp.Lexicographic.{pointwise}
use Rattle.krb_conf.specs.declared.env.Env.{Env}
use Rattle.krb_messages.specs.declared.principal_name.PrincipalName.{PrincipalName}
use Rattle.krb_exchange.specs.declared.user_to_user.TgtReq.{TgtReq}
use Rattle.krb_context.specs.declared.context.Kerberos.{Kerberos}
use Rattle.krb_context.specs.declared.server.ServerProperties.{ServerProperties}
use Rattle.sspi_core.specs.Flags.{has_flag, use_dce_style}
use Rattle.sspi_core.specs.declared.flags.ServerRequestFlags.{ServerRequestFlags}
use Rattle.sspi_core.specs.declared.identity.CredentialsBuffers.{CredentialsBuffers}
use Rattle.sspi_core.specs.declared.identity.CredentialsBuffers.TheVariants.{AuthIdentity as Password, Keytab as Key}
use Rattle.sspi_core.specs.declared.cause.Cause.{Cause}
use Rattle.sspi_core.specs.declared.cause.Cause.TheVariants.{ServerName, KeytabUser}
use Rattle.sspi_core.specs.Checks.{Holds, Gives, ◌>>=◌, ◌>>◌}
use Rattle.krb_as.specs.Askers.{asker_of}
use Rattle.krb_as.specs.declared.client.Client.{Client}
use Rattle.krb_as.specs.Clients.{NamesClient, IsShort}
use Rattle.krb_user_to_user.specs.declared.request.Acceptor.{Acceptor}
use Rattle.krb_user_to_user.specs.declared.request.Beginning.{Beginning}

-- tokens are bare: DCE style (MS-KILE, section 3.4.5.1)
abbrev pub is_bare : ServerRequestFlags → Bool
is_bare flags = has_flag flags.0 use_dce_style

-- the name is the service's own: its type and its components are
abbrev pub is_own : PrincipalName → Option ServerProperties → Bool
is_own name None = false
is_own name (Some server) =
    pointwise ◌==◌ server.service_name.name_type name.name_type && pointwise (pointwise ◌==◌) server.service_name.name_string name.name_string

-- the service is a user with a password
abbrev pub has_password : CredentialsBuffers → Bool
has_password (Password identity) = true
has_password (Key identity) = false

-- the service that fetches the ticket, and its context
abbrev pub acceptor_of : Kerberos → CredentialsBuffers → Bool → Env → Client → Acceptor
acceptor_of server credentials dce env client = record {
  asker = asker_of server credentials client.realm env;
  params = server.encryption_params;
  number = server.seq_number;
  dce = dce;
}

-- the checks of a TGT-REQ, and the beginning of the exchange with the KDC
unfoldable pub RequestsTgt : Kerberos → CredentialsBuffers → TgtReq → Bool → Env → Result Beginning Cause → Type 0
RequestsTgt server credentials tgt_req dce env = do
  Holds ServerName (is_own tgt_req.server_name server.server)
  Holds KeytabUser (has_password credentials)
  client ← NamesClient credentials server.config.client_computer_name env
  Gives (record { acceptor = acceptor_of server credentials dce env client; client = client })

-- the first request of this beginning can be sent
pub record CanBegin (beginning : Beginning) : Type 0 where
  pub client : IsShort beginning.client
  pub realm : length beginning.acceptor.asker.realm ≤ 2 ^ 24
