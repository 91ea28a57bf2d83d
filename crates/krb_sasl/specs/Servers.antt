-- The server's side of the negotiation (RFC 4752, section 3.2): the checks in their order, and what they leave.
use Rattle.std.specs.Prelude.{ℕ, List, Bool, true, false, not, ◌&&◌, Some, None, is_none, Result, if◌then◌else◌}
use Rattle.krb_context.specs.declared.context.Kerberos.{Kerberos}
use Rattle.krb_context.specs.States.{is_final}
use Rattle.krb_sasl.specs.declared.channel.Agreement.{Agreement}
use Rattle.krb_sasl.specs.declared.channel.Channel.{Channel}
use Rattle.krb_sasl.specs.declared.error.SaslError.{SaslError}
use Rattle.krb_sasl.specs.declared.error.SaslError.TheVariants.{Layers, State, Offer, Layer as LayerRefused}
use Rattle.krb_sasl.specs.declared.layer.Layer.{Layer}
use Rattle.krb_sasl.specs.declared.server.SaslServer.{SaslServer}
use Rattle.sspi_core.specs.Checks.{Takes, Holds, Gives, ◌>>=◌, ◌>>◌}
use Rattle.krb_context.specs.ClearWraps.{WrapsClear}
use Rattle.krb_sasl.specs.InContext.{InContext}
use Rattle.krb_sasl.specs.Layers.{is_offer}
use Rattle.krb_sasl.specs.Streams.{sent_from, received, after_token}
use Rattle.krb_sessions.specs.declared.order.Order.{Order}
use Rattle.krb_sessions.specs.declared.order.Order.TheVariants.{FromFirst}
use Rattle.krb_sessions.specs.Orders.{UnwrapsInOrder, order_after, token_number}
use Rattle.krb_sasl.specs.Texts.{offer_text, size_in, is_answer_text, chosen_layer}

-- the end of a server, and the server with another
abbrev pub channel_of : SaslServer → Channel
channel_of server = server.channel

abbrev pub with_channel : SaslServer → Channel → SaslServer
with_channel server channel = record server { channel = channel }

-- an end before the negotiation, which takes tokens in their order from the first that it opens (RFC 4752, section 3.1: a stream of
-- frames)
abbrev pub new_channel : Kerberos → ℕ → Channel
new_channel context size = record { context = context; size = size; agreement = None; order = FromFirst }

-- an end that goes by this order
abbrev pub ordered : Order → Channel → Channel
ordered order channel = record channel { order = order }

-- the checks of a new server
unfoldable pub MayServe : Kerberos → ℕ → ℕ → Result (Unit {0}) SaslError → Type 0
MayServe context layers size = do
  Holds Layers (is_offer layers size)
  Holds State (is_final context.state)

-- all checks of a new server, and the server
unfoldable pub Serves : Kerberos → ℕ → ℕ → Result SaslServer SaslError → Type 0
Serves context layers size = do
  MayServe context layers size
  Gives (record { channel = new_channel context size; layers = layers; has_offered = false })

-- the checks of an offer, and its token
unfoldable pub Offers : SaslServer → Result (List ℕ) SaslError → Type 0
Offers server = do
  Holds State (not server.has_offered)
  InContext (WrapsClear server.channel.context (offer_text server.layers server.channel.size))

-- the server after its offer
abbrev pub offered_by : SaslServer → SaslServer
offered_by server = record server { channel = record server.channel { context = sent_from server.channel.context }; has_offered = true }

-- an answer is awaited
abbrev pub awaits_answer : SaslServer → Bool
awaits_answer server = server.has_offered && is_none server.channel.agreement

-- the checks of an answer's text, and the layer that it chooses from these
unfoldable pub Chooses : ℕ → List ℕ → Result Layer SaslError → Type 0
Chooses layers text = do
  Holds Offer (is_answer_text text)
  Takes LayerRefused (chosen_layer layers text)

-- the checks of an answer, and its text with the layer that it chooses
unfoldable pub Accepts : SaslServer → List ℕ → Result (List ℕ × Layer) SaslError → Type 0
Accepts server token = do
  Holds State (awaits_answer server)
  text ← InContext (UnwrapsInOrder server.channel.order server.channel.context token)
  layer ← Chooses server.layers text
  Gives (text, layer)

-- what is agreed by a text
abbrev pub agreed : List ℕ → Layer → Agreement
agreed text layer = record { layer = layer; peer_size = size_in text }

-- an end that opened a token, and agreed on what its text says
abbrev pub agreed_channel : Channel → List ℕ → Kerberos → Agreement → Channel
agreed_channel channel token context agreement =
    record channel { context = context; order = order_after (token_number token) channel.order; agreement = Some agreement }

-- the server after an answer that it accepted
abbrev pub accepted_by : SaslServer → List ℕ → List ℕ → Layer → SaslServer
accepted_by server token text layer =
    record server { channel = agreed_channel server.channel token (received server.channel.context token) (agreed text layer) }

-- a refusal of what a token says, which was opened
abbrev pub is_of_text : SaslError → Bool
is_of_text Offer = true
is_of_text LayerRefused = true
is_of_text _ = false

-- what a refused token leaves of an end: where it was opened, the place of its number is kept
abbrev pub left_by : SaslError → Channel → List ℕ → Channel
left_by refusal channel token = if is_of_text refusal then after_token channel token else channel
