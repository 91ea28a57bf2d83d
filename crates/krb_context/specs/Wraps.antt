-- Wrapping a message: the checks in their order, and the buffers that it leaves.
use Rattle.std.specs.Prelude.{ℕ, ◌+◌, List, Bool, not, ◌&&◌, nat_le, Result}
use Rattle.sspi_core.specs.declared.cause.Cause.{Cause}
use Rattle.sspi_core.specs.declared.cause.Cause.TheVariants.{Sequence, Buffers, KeyLength, TooSmall}
use Rattle.sspi_core.specs.declared.buffer.Part.TheVariants.{Token, Stream, Plain}
use Rattle.sspi_core.specs.Buffer.{Buffer}
use Rattle.sspi_core.specs.Checks.{Takes, Holds, Gives, ◌>>=◌, ◌>>◌}
use Rattle.sspi_core.specs.Messages.{find_part}
use Rattle.krb_context.specs.declared.context.Kerberos.{Kerberos}
use Rattle.krb_context.specs.declared.params.EncryptionParams.{EncryptionParams}
use Rattle.krb_context.specs.declared.state.KerberosState.{KerberosState}
use Rattle.krb_context.specs.Contexts.{is_acceptor, next_number}
use Rattle.krb_context.specs.Parties.{ready_key, keys_of, own_seal_flags}
use Rattle.krb_context.specs.Spelled.{has_part}
use Rattle.krb_context.specs.Unwraps.{has_key_size}
use Rattle.krb_context.specs.Wrapped.{limit_of, wrapped_by}

-- there is a token and there are plain data, and no stream
abbrev pub has_parts : List Buffer → Bool
has_parts buffers = has_part Token buffers && has_part Plain buffers && not (has_part Stream buffers)

-- the token has room for a header, the EC octets, and the octets that are sealed in addition to the data
abbrev pub has_token_room : ℕ → List Buffer → Bool
has_token_room ec buffers = nat_le (60 + ec) (limit_of (find_part Token buffers))

-- the checks, and the key
unfoldable pub Readies : KerberosState → EncryptionParams → List Buffer → Result (List ℕ) Cause → Type 0
Readies state params buffers = do
  key ← Takes Sequence (ready_key state params)
  Holds Buffers (has_parts buffers)
  Holds KeyLength (has_key_size params key)
  Holds TooSmall (has_token_room params.ec buffers)
  Gives key

-- the buffers that this end makes under a key
abbrev pub wrapped : Kerberos → List ℕ → List ℕ → List Buffer → List Buffer
wrapped context key confounder buffers =
    wrapped_by (keys_of context.encryption_params key (is_acceptor context)) (own_seal_flags context) context.encryption_params.ec
    (next_number context.seq_number) confounder buffers

-- all checks, and the buffers
unfoldable pub Wraps : Kerberos → List ℕ → List Buffer → Result (List Buffer) Cause → Type 0
Wraps context confounder buffers = do
  key ← Readies context.state context.encryption_params buffers
  Gives (wrapped context key confounder buffers)
