-- The data of a channel once both ends agree: the checks in their order, frames and messages.
use Rattle.std.specs.Prelude.{ℕ, List, length, Bool, true, not, ◌||◌, nat_lt, Option, Some, None, Result}
use Rattle.krb_messages.specs.Frame.{with_length}
use Rattle.krb_context.specs.declared.context.Kerberos.{Kerberos}
use Rattle.krb_context.specs.Header.{is_sealed}
use Rattle.krb_sasl.specs.declared.channel.Agreement.{Agreement}
use Rattle.krb_sasl.specs.declared.channel.Channel.{Channel}
use Rattle.krb_sasl.specs.declared.error.SaslError.{SaslError}
use Rattle.krb_sasl.specs.declared.error.SaslError.TheVariants.{State, TooLarge, Frame}
use Rattle.krb_sasl.specs.declared.layer.Layer.{Layer}
use Rattle.krb_sasl.specs.declared.layer.Layer.TheVariants.{None as NoLayer, Integrity, Confidentiality}
use Rattle.sspi_core.specs.Checks.{Takes, Holds, Gives, ◌>>=◌, ◌>>◌}
use Rattle.krb_context.specs.ClearWraps.{WrapsClear}
use Rattle.krb_sasl.specs.Frames.{unframed}
use Rattle.krb_sasl.specs.InContext.{InContext}
use Rattle.krb_sasl.specs.Layers.{message_size, takes_message}
use Rattle.krb_sasl.specs.Streams.{sent_from, after_token, WrapsSealed}
use Rattle.krb_sessions.specs.Orders.{UnwrapsInOrder}

-- the message of a layer: the data themselves, in the clear with a checksum, or sealed
abbrev pub MakesInLayer : Layer → Kerberos → List ℕ → List ℕ → Result (List ℕ) SaslError → Type 0
MakesInLayer NoLayer context confounder p = Gives p
MakesInLayer Integrity context confounder p = InContext (WrapsClear context p)
MakesInLayer Confidentiality context confounder p = InContext (WrapsSealed context confounder p)

-- the agreement, with room for the message of n octets at the other end
unfoldable pub Readies : Channel → ℕ → Result Agreement SaslError → Type 0
Readies channel n = do
  agreement ← Takes State channel.agreement
  Holds TooLarge (takes_message agreement.layer agreement.peer_size (message_size agreement.layer channel.context.encryption_params.ec n))
  Gives agreement

-- all checks of data that are sealed, and the frame
unfoldable pub Seals : Channel → List ℕ → List ℕ → Result (List ℕ) SaslError → Type 0
Seals channel confounder p = do
  agreement ← Readies channel (length p)
  message ← MakesInLayer agreement.layer channel.context confounder p
  Gives (with_length message)

-- a message that has flags has those of the layer
abbrev pub has_flags : Layer → List ℕ → Bool
has_flags NoLayer message = true
has_flags Integrity message = nat_lt (length message) 3 || not (is_sealed message)
has_flags Confidentiality message = nat_lt (length message) 3 || is_sealed message

-- the data of a message, which is the next one of its layer
abbrev pub OpensInLayer : Layer → Channel → List ℕ → Result (List ℕ) SaslError → Type 0
OpensInLayer NoLayer channel message = Gives message
OpensInLayer Integrity channel message = InContext (UnwrapsInOrder channel.order channel.context message)
OpensInLayer Confidentiality channel message = InContext (UnwrapsInOrder channel.order channel.context message)

-- the checks of a frame, and its layer and message
unfoldable pub Unframes : Channel → List ℕ → Result (Layer × List ℕ) SaslError → Type 0
Unframes channel frame = do
  agreement ← Takes State channel.agreement
  message ← Takes Frame (unframed frame)
  Holds TooLarge (takes_message agreement.layer channel.size (length message))
  Holds Frame (has_flags agreement.layer message)
  Gives (agreement.layer, message)

-- all checks of a frame, and the data in it
unfoldable pub Unseals : Channel → List ℕ → Result (List ℕ) SaslError → Type 0
Unseals channel frame = do
  framed ← Unframes channel frame
  OpensInLayer framed.0 channel framed.1

-- the context after a message of a layer that it made
abbrev pub context_after_making : Layer → Kerberos → Kerberos
context_after_making NoLayer context = context
context_after_making Integrity context = sent_from context
context_after_making Confidentiality context = sent_from context

-- the channel after a message of a layer that it opened
abbrev pub channel_after_opening : Layer → Channel → List ℕ → Channel
channel_after_opening NoLayer channel message = channel
channel_after_opening Integrity channel message = after_token channel message
channel_after_opening Confidentiality channel message = after_token channel message

abbrev pub context_after_sealing : Option Agreement → Kerberos → Kerberos
context_after_sealing None context = context
context_after_sealing (Some agreement) context = context_after_making agreement.layer context

-- the channel after data that it wrapped
abbrev pub sealed_by : Channel → Channel
sealed_by channel = record channel { context = context_after_sealing channel.agreement channel.context }

abbrev pub channel_after_unsealing : Option Agreement → Option (List ℕ) → Channel → Channel
channel_after_unsealing None message channel = channel
channel_after_unsealing (Some agreement) None channel = channel
channel_after_unsealing (Some agreement) (Some message) channel = channel_after_opening agreement.layer channel message

-- the channel after a frame that it unwrapped
abbrev pub unsealed_by : Channel → List ℕ → Channel
unsealed_by channel frame = channel_after_unsealing channel.agreement (unframed frame) channel
