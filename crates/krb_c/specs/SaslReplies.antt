-- The reply to a call on an end with a security layer, as C has it.
use Rattle.std.specs.Prelude.{ℕ, Result, Ok, Err}
use Rattle.krb_c.specs.Replies.{plain_reply, reply_to}
use Rattle.krb_c.specs.declared.reply.Reply.{Reply}
use Rattle.krb_c.specs.declared.sasl_reply.SaslFailure.{SaslFailure}
use Rattle.krb_c.specs.declared.sasl_reply.SaslFailure.TheVariants.{Refused, Room, Argument, Handle}
use Rattle.krb_sasl.specs.declared.error.SaslError.{SaslError}
use Rattle.krb_sasl.specs.declared.error.SaslError.TheVariants.{Layers, State, Offer, Layer, TooLarge, Frame, Context, OutOfMemory}
use Rattle.krb_sasl.specs.declared.fault.SaslFault.{SaslFault}
use Rattle.krb_sasl.specs.declared.fault.SaslFault.TheVariants.{Refused as RefusedFault, Room as RoomFault}
use Rattle.sspi_core.specs.declared.cause.Cause.TheVariants.{Memory}
use Rattle.sspi_core.specs.Kinds.{error_of}

-- a fault of an end's, as a failure of the call
abbrev pub failure_of : SaslFault → SaslFailure
failure_of (RefusedFault refusal) = Refused refusal
failure_of (RoomFault count) = Room count

-- a refusal by the layers' own rules: 6, and its number
abbrev pub layer_reply : ℕ → Reply
layer_reply number = record { status = 6; kind = 0; cause = 0; number = number; length = 0 }

-- the reply to a refusal: one of the context is returned as the context's own
abbrev pub refusal_reply : SaslError → Reply
refusal_reply Layers = layer_reply 1
refusal_reply State = layer_reply 2
refusal_reply Offer = layer_reply 3
refusal_reply Layer = layer_reply 4
refusal_reply TooLarge = layer_reply 5
refusal_reply Frame = layer_reply 6
refusal_reply (Context error) = reply_to error
refusal_reply OutOfMemory = reply_to (error_of Memory)

-- the reply to an answer
abbrev pub sasl_reply : Result ℕ SaslFailure → Reply
sasl_reply (Ok length) = plain_reply 0 length
sasl_reply (Err (Refused refusal)) = refusal_reply refusal
sasl_reply (Err (Room length)) = plain_reply 3 length
sasl_reply (Err Argument) = plain_reply 4 0
sasl_reply (Err Handle) = plain_reply 5 0
