-- The order of a peer's messages (RFC 2743, section 1.2.3; RFC 4121, section 4.2.6).
use Rattle.std.specs.Prelude.{◌≡◌, ℕ, List, take, Bool, true, ◌==◌, Option, Some, None, option_map, Result, Err}
use Rattle.krb_context.specs.declared.context.Kerberos.{Kerberos}
use Rattle.krb_context.specs.Contexts.{next_number}
use Rattle.krb_context.specs.Header.{number_of}
use Rattle.krb_context.specs.Mics.{ChecksMic}
use Rattle.krb_context.specs.Unwraps.{Unwraps}
use Rattle.krb_context.specs.Whole.{whole_message}
use Rattle.krb_sessions.specs.declared.order.Order.{Order}
use Rattle.krb_sessions.specs.declared.order.Order.TheVariants.{Any, FromFirst, Next}
use Rattle.krb_sessions.specs.declared.session.Session.{Session}
use Rattle.krb_sessions.specs.Gives.{after_opening}
use Rattle.sspi_core.specs.declared.cause.Cause.{Cause}
use Rattle.sspi_core.specs.declared.cause.Cause.TheVariants.{Number}
use Rattle.sspi_core.specs.declared.error.Error.{Error}
use Rattle.sspi_core.specs.Kinds.{error_of}
use Rattle.sspi_core.specs.Checks.{Holds, Gives, ◌>>=◌, ◌>>◌}

-- the number in the header of a token: the low four octets of its SND_SEQ
abbrev pub token_number : List ℕ → ℕ
token_number token = number_of (take 16 token)

-- a message of this number is taken
abbrev pub awaits : Order → ℕ → Bool
awaits Any number = true
awaits FromFirst number = true
awaits (Next next) number = number == next

-- the order after a message of this number was taken
abbrev pub order_after : ℕ → Order → Order
order_after number Any = Any
order_after number FromFirst = Next (next_number number)
order_after number (Next next) = Next (next_number number)

-- all checks of a message, and its text: its number comes last
unfoldable pub UnwrapsInOrder : Order → Kerberos → List ℕ → Result (List ℕ) Cause → Type 0
UnwrapsInOrder order context sealed = do
  text ← Unwraps context (whole_message sealed)
  Holds Number (awaits order (token_number sealed))
  Gives text

-- all checks of a MIC token over a payload: its number comes last
unfoldable pub VerifiesInOrder : Order → Kerberos → List ℕ → List ℕ → Result (Unit {0}) Cause → Type 0
VerifiesInOrder order context mic payload = do
  ChecksMic context mic payload
  Holds Number (awaits order (token_number mic))

-- the token is no MIC of the client's over this payload, or not the next token, by the first check that fails
abbrev pub RefusesMic : Order → Kerberos → List ℕ → List ℕ → Error → Type 0
RefusesMic order context mic payload error = (cause : Cause) × (error ≡ error_of cause) × VerifiesInOrder order context mic payload (Err cause)

-- the session after a message that it opened
abbrev pub taken : List ℕ → Session → Session
taken sealed session = record session { connection = after_opening sealed session.connection; order = order_after (token_number sealed) session.order }

-- the session after a MIC token that it verified
abbrev pub verified : List ℕ → Session → Session
verified mic session = record session { order = order_after (token_number mic) session.order }

-- a count from the client's first number, which an acceptor knows, otherwise from the first message that decrypts
abbrev pub order_from : Option ℕ → Order
order_from (Some number) = Next number
order_from None = FromFirst

-- a count that goes on, or begins
abbrev pub order_on : Option ℕ → Order → Order
order_on first Any = order_from first
order_on first FromFirst = order_from first
order_on first (Next next) = Next next

-- the order of a session that is asked for order
abbrev pub order_asked : Session → Order
order_asked session = order_on (option_map (λ client. client.value.first_number) session.client) session.order
