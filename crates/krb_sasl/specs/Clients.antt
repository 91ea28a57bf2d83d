-- The client's side of the negotiation (RFC 4752, section 3.1): the checks in their order, and what they leave.
use Rattle.std.specs.Prelude.{ℕ, List, Result, is_none}
use Rattle.krb_context.specs.declared.context.Kerberos.{Kerberos}
use Rattle.krb_context.specs.States.{is_final}
use Rattle.krb_sasl.specs.declared.channel.Channel.{Channel}
use Rattle.krb_sasl.specs.declared.client.SaslClient.{SaslClient}
use Rattle.krb_sasl.specs.declared.error.SaslError.{SaslError}
use Rattle.krb_sasl.specs.declared.error.SaslError.TheVariants.{Layers, State, Offer, Layer as LayerRefused}
use Rattle.krb_sasl.specs.declared.layer.Layer.{Layer}
use Rattle.sspi_core.specs.Checks.{Holds, Gives, ◌>>=◌, ◌>>◌}
use Rattle.krb_context.specs.ClearWraps.{WrapsClear}
use Rattle.krb_sasl.specs.InContext.{InContext}
use Rattle.krb_sasl.specs.Layers.{is_wish}
use Rattle.krb_sasl.specs.Servers.{new_channel, agreed, agreed_channel}
use Rattle.krb_sasl.specs.Streams.{sent_from, received}
use Rattle.krb_sessions.specs.Orders.{UnwrapsInOrder}
use Rattle.krb_sasl.specs.Texts.{answer_text, is_offer_text, offers_layer}

-- the end of a client, and the client with another
abbrev pub channel_of : SaslClient → Channel
channel_of client = client.channel

abbrev pub with_channel : SaslClient → Channel → SaslClient
with_channel client channel = record client { channel = channel }

-- the checks of a new client, and its user's name
unfoldable pub MayWish : Kerberos → Layer → ℕ → List ℕ → Result (List ℕ) SaslError → Type 0
MayWish context wanted size name = do
  Holds Layers (is_wish wanted size)
  Holds State (is_final context.state)
  Gives name

-- all checks of a new client, and the client
unfoldable pub Wishes : Kerberos → Layer → ℕ → List ℕ → Result SaslClient SaslError → Type 0
Wishes context wanted size name = do
  told ← MayWish context wanted size name
  Gives (record { channel = new_channel context size; wanted = wanted; name = told })

-- the checks of an offer's text, for a client of this layer
unfoldable pub Suits : Layer → List ℕ → Result (Unit {0}) SaslError → Type 0
Suits wanted text = do
  Holds Offer (is_offer_text text)
  Holds LayerRefused (offers_layer text wanted)

-- the checks of an offer, and its text
unfoldable pub Reads : SaslClient → List ℕ → Result (List ℕ) SaslError → Type 0
Reads client offer = do
  Holds State (is_none client.channel.agreement)
  text ← InContext (UnwrapsInOrder client.channel.order client.channel.context offer)
  Suits client.wanted text
  Gives text

-- the checks of an answer, its token, and the text of the offer
unfoldable pub AnswersOffer : SaslClient → List ℕ → Result (List ℕ × List ℕ) SaslError → Type 0
AnswersOffer client offer = do
  text ← Reads client offer
  token ← InContext (WrapsClear (received client.channel.context offer) (answer_text client.wanted client.channel.size client.name))
  Gives (token, text)

-- the client after its answer to an offer with this text
abbrev pub answered_by : SaslClient → List ℕ → List ℕ → SaslClient
answered_by client offer text =
    record client { channel = agreed_channel client.channel offer (sent_from (received client.channel.context offer)) (agreed text client.wanted) }
