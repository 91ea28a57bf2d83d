-- Messages as the context takes them: octets to be decrypted whole, and data to be encrypted after a token.
use Rattle.std.specs.Prelude.{ℕ, ◌+◌, List, [], ◌∷◌, ◌++◌, length, Result}
use Rattle.sspi_core.specs.declared.buffer.BufferType.TheVariants.{Token as TokenType, Data}
use Rattle.sspi_core.specs.declared.buffer.Part.TheVariants.{Token, Plain}
use Rattle.sspi_core.specs.declared.cause.Cause.{Cause}
use Rattle.sspi_core.specs.Buffer.{Buffer, no_flags}
use Rattle.sspi_core.specs.Checks.{Gives, ◌>>=◌}
use Rattle.krb_context.specs.declared.context.Kerberos.{Kerberos}
use Rattle.krb_context.specs.Contexts.{next_number}
use Rattle.krb_context.specs.Spelled.{part_octets}
use Rattle.krb_context.specs.Wraps.{Wraps}
use Rattle.krb_sasl.specs.declared.channel.Channel.{Channel}
use Rattle.krb_sessions.specs.Gives.{after_opening}
use Rattle.krb_sessions.specs.Orders.{order_after, token_number}

-- a token with room for all that is encrypted besides the data, and the data
abbrev pub as_data : ℕ → List ℕ → List Buffer
as_data ec p =
    record { kind = TokenType; flags = no_flags; octets = []; limit = 60 + ec } ∷
    record { kind = Data; flags = no_flags; octets = p; limit = length p } ∷ []

-- the context after a message that it made
abbrev pub sent_from : Kerberos → Kerberos
sent_from context = record context { seq_number = next_number context.seq_number }

-- the context after octets that it decrypted
abbrev pub received : Kerberos → List ℕ → Kerberos
received context octets = after_opening octets context

-- the end after a token that it decrypted
abbrev pub after_token : Channel → List ℕ → Channel
after_token channel token = record channel { context = received channel.context token; order = order_after (token_number token) channel.order }

-- the checks of a message that is encrypted, and its token and data
unfoldable pub WrapsSealed : Kerberos → List ℕ → List ℕ → Result (List ℕ) Cause → Type 0
WrapsSealed context confounder p = do
  made ← Wraps context confounder (as_data context.encryption_params.ec p)
  Gives (part_octets Token made ++ part_octets Plain made)
