-- Messages in the clear with a checksum (RFC 4121, section 4.2.4): the checks in their order, and the token.
use Rattle.std.specs.Prelude.{ℕ, List, ◌++◌, Bool, Result}
use Rattle.krb_crypto.specs.Hmac.{hmac12}
use Rattle.krb_crypto.specs.Suite.{kc}
use Rattle.sspi_core.specs.declared.cause.Cause.{Cause}
use Rattle.sspi_core.specs.declared.cause.Cause.TheVariants.{Sequence, KeyLength}
use Rattle.sspi_core.specs.Checks.{Takes, Holds, Gives, ◌>>=◌, ◌>>◌}
use Rattle.krb_context.specs.declared.context.Kerberos.{Kerberos}
use Rattle.krb_context.specs.declared.params.EncryptionParams.{EncryptionParams}
use Rattle.krb_context.specs.declared.state.KerberosState.{KerberosState}
use Rattle.krb_context.specs.Contexts.{is_acceptor, next_number}
use Rattle.krb_context.specs.Header.{wrap_header, without_counts}
use Rattle.krb_context.specs.Params.{suite_of}
use Rattle.krb_context.specs.Parties.{ready_key, seal_usage, own_sign_flags}
use Rattle.krb_context.specs.Unwraps.{has_key_size}

-- a header, a text, and the checksum of both, the header's counts left out
unfoldable pub checked_text : List ℕ → List ℕ → List ℕ → List ℕ
checked_text key header p = header ++ (p ++ hmac12 key (p ++ without_counts header))

-- the key of the checksums of a side's wrap tokens
abbrev pub clear_key : EncryptionParams → List ℕ → Bool → List ℕ
clear_key params key acceptor = kc (suite_of params) key (seal_usage acceptor)

-- the token that a side makes: not sealed, as a MIC token is not; its EC is the checksum's length, and its body is not turned
unfoldable pub clear_token : EncryptionParams → List ℕ → Bool → ℕ → ℕ → List ℕ → List ℕ
clear_token params key acceptor flags number p = checked_text (clear_key params key acceptor) (wrap_header flags 12 0 number) p

-- the checks, and the key
unfoldable pub ReadiesClear : KerberosState → EncryptionParams → Result (List ℕ) Cause → Type 0
ReadiesClear state params = do
  key ← Takes Sequence (ready_key state params)
  Holds KeyLength (has_key_size params key)
  Gives key

-- all checks, and the token: with the next number
unfoldable pub WrapsClear : Kerberos → List ℕ → Result (List ℕ) Cause → Type 0
WrapsClear context p = do
  key ← ReadiesClear context.state context.encryption_params
  Gives (clear_token context.encryption_params key (is_acceptor context) (own_sign_flags context) (next_number context.seq_number) p)
