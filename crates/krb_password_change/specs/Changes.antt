-- The client that changes a password, up to the request to the KDC.
use Rattle.std.specs.Prelude.{◌≤◌, ◌^◌, List, ℕ, length, Result}
use Rattle.krb_conf.specs.declared.env.Env.{Env}
use Rattle.krb_context.specs.declared.context.Kerberos.{Kerberos}
use Rattle.sspi_core.specs.declared.identity.CredentialsBuffers.{CredentialsBuffers}
use Rattle.sspi_core.specs.declared.identity.CredentialsBuffers.TheVariants.{AuthIdentity as Password}
use Rattle.sspi_core.specs.declared.cause.Cause.{Cause}
use Rattle.sspi_core.specs.Checks.{Gives, ◌>>=◌}
use Rattle.krb_as.specs.Askers.{asker_of}
use Rattle.krb_as.specs.declared.client.Client.{Client}
use Rattle.krb_as.specs.Clients.{NamesClient, IsShort}
use Rattle.krb_password_change.specs.declared.change.ChangePassword.{ChangePassword}
use Rattle.krb_password_change.specs.declared.change.Changer.{Changer}

-- the user with the old password
abbrev pub credentials_of : List ℕ → List ℕ → List ℕ → CredentialsBuffers
credentials_of account domain old = Password (record { user = account; domain = domain; password = old })

-- this client, which asks the KDC of its own realm, and its context
abbrev pub changer_of : Kerberos → CredentialsBuffers → List ℕ → Env → Client → Changer
changer_of context credentials password env client = record {
  asker = asker_of context credentials client.realm env;
  client = client;
  new_password = password;
  state = context.state;
  params = context.encryption_params;
  number = context.seq_number;
  user_to_user = context.krb5_user_to_user;
  asked_at = context.asked_at;
}

-- the client of the account, on the context's machine
unfoldable pub BeginsChange : Kerberos → ChangePassword → Env → Result Changer Cause → Type 0
BeginsChange context change env = do
  client ← NamesClient (credentials_of change.account_name change.domain_name change.old_password) context.config.client_computer_name env
  Gives (changer_of context (credentials_of change.account_name change.domain_name change.old_password) change.new_password env client)

-- what it begins with can be sent
pub record IsReady (changer : Changer) : Type 0 where
  pub client : IsShort changer.client
  pub realm : length changer.asker.realm ≤ 2 ^ 24
  pub new_password : length changer.new_password ≤ 2 ^ 24
