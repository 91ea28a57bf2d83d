-- The suite and the keys of a context.
use Rattle.std.specs.Prelude.{ℕ, false, List, Option, Some, None, unwrap_or}
use Rattle.krb_crypto.specs.declared.suite.CipherSuite.{CipherSuite}
use Rattle.krb_crypto.specs.declared.suite.CipherSuite.TheVariants.{Aes128CtsHmacSha196, Aes256CtsHmacSha196}
use Rattle.krb_crypto.specs.declared.suite.AesSize.{AesSize}
use Rattle.krb_crypto.specs.declared.suite.AesSize.TheVariants.{Aes128, Aes256}
use Rattle.krb_context.specs.declared.params.EncryptionParams.{EncryptionParams}

-- no suite, no keys and an extra count (EC) of 0
abbrev pub default_params : ℕ → ℕ → EncryptionParams
default_params encrypt_usage decrypt_usage = record {
  encryption_type = None;
  session_key = None;
  sub_session_key = None;
  sspi_encrypt_key_usage = encrypt_usage;
  sspi_decrypt_key_usage = decrypt_usage;
  ec = 0;
  acceptor_subkey = false;
}

-- the suite that was chosen, otherwise AES-256
abbrev pub suite_of : EncryptionParams → CipherSuite
suite_of params = unwrap_or params.encryption_type Aes256CtsHmacSha196

abbrev pub size_of : Option CipherSuite → Option AesSize
size_of None = None
size_of (Some Aes128CtsHmacSha196) = Some Aes128
size_of (Some Aes256CtsHmacSha196) = Some Aes256

-- the first value that is there
abbrev pub or_else : {A : Type 0} → Option A → Option A → Option A
or_else (Some x) other = Some x
or_else None other = other

-- the subkey, otherwise the session key
abbrev pub key_of : EncryptionParams → Option (List ℕ)
key_of params = or_else params.sub_session_key params.session_key
