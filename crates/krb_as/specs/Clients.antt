-- The client of credentials, as it is named to a KDC (RFC 4120, sections 5.4.1 and 6.2; RFC 6806, section 5).
use Rattle.std.specs.Prelude.{ℕ, ◌≤◌, ◌^◌, List, length, Result}
use Rattle.krb_conf.specs.Names.{name_type, client_name}
use Rattle.krb_conf.specs.Realm.{client_realm}
use Rattle.krb_conf.specs.declared.env.Env.{Env}
use Rattle.sspi_core.specs.declared.identity.CredentialsBuffers.{CredentialsBuffers}
use Rattle.sspi_core.specs.declared.identity.CredentialsBuffers.TheVariants.{AuthIdentity as Password, Keytab as Key}
use Rattle.sspi_core.specs.declared.cause.Cause.{Cause}
use Rattle.sspi_core.specs.declared.cause.Cause.TheVariants.{NotAscii}
use Rattle.sspi_core.specs.Checks.{Takes, Gives, ◌>>=◌}
use Rattle.krb_requests.specs.Pieces.{name_of}
use Rattle.krb_as.specs.declared.client.Client.{Client}

-- the name that credentials have, its domain, and the type of the name: for a password the user as it is, for a key of a keytab the
-- user principal name or the account
abbrev pub stated : CredentialsBuffers → List ℕ × List ℕ × ℕ
stated (Password identity) = (identity.user, identity.domain, name_type identity.user)
stated (Key identity) = client_name identity.principal

-- the realm of that name
abbrev pub realm_of : Env → List ℕ × List ℕ × ℕ → List ℕ
realm_of env name = client_realm env.vars env.files name.0 name.1

-- the client: its name, its realm and its machine's name, each of ASCII
unfoldable pub NamesClient : CredentialsBuffers → List ℕ → Env → Result Client Cause → Type 0
NamesClient credentials machine env = do
  name ← Takes NotAscii (name_of (stated credentials).0)
  realm ← Takes NotAscii (name_of (realm_of env (stated credentials)))
  host ← Takes NotAscii (name_of machine)
  Gives (record { name = name; name_type = (stated credentials).2; realm = realm; host = host })

-- texts of at most 2^24 octets each
pub record IsShort (client : Client) : Type 0 where
  pub name : length client.name ≤ 2 ^ 24
  pub realm : length client.realm ≤ 2 ^ 24
  pub host : length client.host ≤ 2 ^ 24
