-- Credentials and the parts that a context keeps of them.
use Rattle.sspi_core.specs.declared.identity.AuthIdentity.{AuthIdentity}
use Rattle.sspi_core.specs.declared.identity.AuthIdentityBuffers.{AuthIdentityBuffers}
use Rattle.sspi_core.specs.declared.identity.Credentials.{Credentials}
use Rattle.sspi_core.specs.declared.identity.Credentials.TheVariants.{AuthIdentity as Password, Keytab as Key}
use Rattle.sspi_core.specs.declared.identity.CredentialsBuffers.{CredentialsBuffers}
use Rattle.sspi_core.specs.declared.identity.CredentialsBuffers.TheVariants.{AuthIdentity as PasswordParts, Keytab as KeyParts}
use Rattle.sspi_core.specs.Identities.{user_text, domain_text}

-- the user, the domain and the password of an identity
abbrev pub identity_buffers : AuthIdentity → AuthIdentityBuffers
identity_buffers identity = record {
  user = user_text identity.username;
  domain = domain_text identity.username;
  password = identity.password;
}

abbrev pub buffers_of : Credentials → CredentialsBuffers
buffers_of (Password identity) = PasswordParts (identity_buffers identity)
buffers_of (Key identity) = KeyParts identity
