-- The client that asks a KDC, and its key (RFC 4120, section 3.1.1; RFC 3962, section 4).
use Rattle.std.specs.Prelude.{ℕ, ◌==◌, List, [], ◌++◌, length, Option, Some, None, unwrap_or, if◌then◌else◌}
use Rattle.krb_crypto.specs.Suite.{key_size, suite_of_etype}
use Rattle.krb_crypto.specs.Password.{password_key}
use Rattle.krb_crypto.specs.declared.suite.CipherSuite.{CipherSuite}
use Rattle.krb_conf.specs.declared.env.Env.{Env}
use Rattle.krb_context.specs.Rules.{has_rule, suite_of_each_key}
use Rattle.krb_context.specs.Params.{suite_of}
use Rattle.krb_context.specs.declared.context.Kerberos.{Kerberos}
use Rattle.sspi_core.specs.declared.identity.CredentialsBuffers.{CredentialsBuffers}
use Rattle.sspi_core.specs.declared.identity.CredentialsBuffers.TheVariants.{AuthIdentity as Password, Keytab as Key}
use Rattle.krb_as.specs.declared.asker.Asker.{Asker}

-- a client that asks the KDC of a realm: at its own URL if it has one, under its suite, and with what its context allows
abbrev pub asker_of : Kerberos → CredentialsBuffers → List ℕ → Env → Asker
asker_of client credentials realm env = record {
  kdc_url = client.config.kdc_url;
  env = env;
  realm = realm;
  suite = suite_of client.encryption_params;
  credentials = credentials;
  rules = client.rules;
}

-- the suite of the client's key: the context's for a password, the key's own for a keytab
abbrev pub suite_for : CipherSuite → CredentialsBuffers → CipherSuite
suite_for suite (Password identity) = suite
suite_for suite (Key identity) = suite_of_etype identity.key_enctype

abbrev pub asker_suite : Asker → CipherSuite
asker_suite asker = suite_for asker.suite asker.credentials

-- the same where a KDC names a suite for a password's key
abbrev pub suite_told : Asker → Option CipherSuite → CipherSuite
suite_told asker named = suite_for (unwrap_or named asker.suite) asker.credentials

-- the suite of the key that the time is sealed under, where a KDC's error names this one
abbrev pub time_suite : Asker → Option CipherSuite → CipherSuite
time_suite asker named = if has_rule asker.rules suite_of_each_key then suite_told asker named else asker_suite asker

-- the salt if no KDC names one: the domain and then the user
abbrev pub default_salt : CredentialsBuffers → List ℕ
default_salt (Password identity) = identity.domain ++ identity.user
default_salt (Key identity) = []

-- the key of the credentials with a salt: that of a password, or a keytab's if it is as long as the keys of its suite
abbrev pub key_for : CipherSuite → List ℕ → CredentialsBuffers → Option (List ℕ)
key_for suite salt (Password identity) = Some (password_key suite identity.password salt)
key_for suite salt (Key identity) = if length identity.key == key_size suite then Some identity.key else None

-- the key of credentials in a suite, with a salt, whatever its length: that of the password, or the keytab's own
abbrev pub client_key : CipherSuite → List ℕ → CredentialsBuffers → List ℕ
client_key suite salt (Password identity) = password_key suite identity.password salt
client_key suite salt (Key identity) = identity.key

-- the client's key in a suite, with a salt
abbrev pub sized_key : Asker → CipherSuite → List ℕ → Option (List ℕ)
sized_key asker suite salt = key_for suite salt asker.credentials
