-- Wrapping a text into a room (RFC 4121, section 4.2.6.2): the checks in their order, and the token.
use Rattle.std.specs.Prelude.{◌≡◌, ℕ, List, ◌++◌, length, drop, nat_le, Result, Ok}
use Rattle.krb_crypto.specs.SealingPair.{SealingPair}
use Rattle.sspi_core.specs.declared.cause.Cause.{Cause}
use Rattle.sspi_core.specs.declared.cause.Cause.TheVariants.{TooSmall}
use Rattle.sspi_core.specs.Buffer.{Buffer}
use Rattle.sspi_core.specs.Checks.{Holds, Gives, ◌>>=◌, ◌>>◌}
use Rattle.krb_context.specs.declared.context.Kerberos.{Kerberos}
use Rattle.krb_context.specs.Header.{wrap_header}
use Rattle.krb_context.specs.Spelled.{spelled}
use Rattle.krb_context.specs.Whole.{text_message}
use Rattle.krb_context.specs.Wrapped.{written_body}
use Rattle.krb_context.specs.Wraps.{Wraps}

-- the token of a text: a header, and a body
abbrev pub text_token : SealingPair → ℕ → ℕ → ℕ → List ℕ → List ℕ → List ℕ
text_token keys flags ec number confounder text =
    wrap_header flags ec 28 number ++ written_body keys flags ec number confounder (text_message ec text)

-- the checks of a wrap, the token that its buffers spell, and last that the room holds the token
unfoldable pub WrapsInto : Kerberos → List ℕ → List ℕ → ℕ → Result (List ℕ) Cause → Type 0
WrapsInto context confounder text room = do
  buffers ← Wraps context confounder (text_message context.encryption_params.ec text)
  Holds TooSmall (nat_le (length (spelled buffers)) room)
  Gives (spelled buffers)

-- the octets that the checks give are at the front of a room, and this is their number
pub record Writes (checks : Result (List ℕ) Cause → Type 0) (old : List ℕ) (count : ℕ) (new : List ℕ) : Type 0 where
  pub octets : List ℕ
  pub given : checks (Ok octets)
  pub counted : count ≡ length octets
  pub put : new ≡ octets ++ drop (length octets) old

-- the context wraps the text, and the token has this length
pub record IsWrappedIn (context : Kerberos) (confounder text : List ℕ) (count : ℕ) : Type 0 where
  pub buffers : List Buffer
  pub wraps : Wraps context confounder (text_message context.encryption_params.ec text) (Ok buffers)
  pub sized : length (spelled buffers) ≡ count
