-- The calls of an event at a connection's context apart from its exchange: to wrap and to unwrap a message, to make a MIC token of a
-- payload and to check one (RFC 4121, sections 4.2.4 and 4.2.6).
use Rattle.std.specs.Prelude.{◌≡◌, ℕ, Bool, true, false, List, take, Result, Ok, Err}
use Rattle.sspi_core.specs.Buffer.{Buffer}
use Rattle.sspi_core.specs.Kinds.{error_of, error_at}
use Rattle.sspi_core.specs.declared.cause.Cause.{Cause}
use Rattle.sspi_core.specs.declared.error.Place.TheVariants.{MakeMic as MakingMic}
use Rattle.krb_context.specs.Contexts.{next_number}
use Rattle.krb_context.specs.Mics.{MakesMic, ChecksMic}
use Rattle.krb_context.specs.Unwraps.{Unwraps, unwrapped, message_number}
use Rattle.krb_context.specs.Window.{noted}
use Rattle.krb_context.specs.Wraps.{Wraps}
use Rattle.krb_context.specs.declared.context.Kerberos.{Kerberos}
use Rattle.krb_script.specs.declared.input.Input.{Input}
use Rattle.krb_script.specs.declared.input.Input.TheVariants as inputs
use Rattle.krb_machine.specs.declared.reply.Reply.{Reply}
use Rattle.krb_machine.specs.declared.reply.Reply.TheVariants.{Buffers, Mic, Verified, Refused}

-- the event is a call, and no event of an exchange
abbrev pub is_call : Input → Bool
is_call (inputs.Token octets) = false
is_call inputs.Start = false
is_call (inputs.KdcReply octets) = false
is_call (inputs.KdcFault code) = false
is_call (inputs.Wrap message) = true
is_call (inputs.Unwrap message) = true
is_call (inputs.MakeMic payload) = true
is_call (inputs.VerifyMic token payload) = true

-- the buffers that were wrapped: the sequence number rises by one. A refusal leaves the context
abbrev pub IsSealedBy : Kerberos → Result (List Buffer) Cause → Reply → Kerberos → Type 0
IsSealedBy context (Ok message) reply after = (reply ≡ Buffers message) × (after ≡ record context { seq_number = next_number context.seq_number })
IsSealedBy context (Err cause) reply after = (reply ≡ Refused (error_of cause)) × (after ≡ context)

-- the confounder is the first 16 octets that the event may draw
pub record Seals (context : Kerberos) (random : List ℕ) (message : List Buffer) (reply : Reply) (after : Kerberos) : Type 0 where
  pub answer : Result (List Buffer) Cause
  pub wraps : Wraps context (take 16 random) message answer
  pub made : IsSealedBy context answer reply after

-- the buffers with the unwrapped text: the window takes the message's sequence number. A refusal leaves the context
abbrev pub IsOpenedBy : Kerberos → List Buffer → Result (List ℕ) Cause → Reply → Kerberos → Type 0
IsOpenedBy context message (Ok text) reply after =
    (reply ≡ Buffers (unwrapped text message)) × (after ≡ record context { window = noted context.window (message_number message) })
IsOpenedBy context message (Err cause) reply after = (reply ≡ Refused (error_of cause)) × (after ≡ context)

pub record OpensMessage (context : Kerberos) (message : List Buffer) (reply : Reply) (after : Kerberos) : Type 0 where
  pub answer : Result (List ℕ) Cause
  pub unwraps : Unwraps context message answer
  pub made : IsOpenedBy context message answer reply after

-- the MIC token: the sequence number rises by one. A refusal leaves the context
abbrev pub IsSignedBy : Kerberos → Result (List ℕ) Cause → Reply → Kerberos → Type 0
IsSignedBy context (Ok token) reply after = (reply ≡ Mic token) × (after ≡ record context { seq_number = next_number context.seq_number })
IsSignedBy context (Err cause) reply after = (reply ≡ Refused (error_at MakingMic cause)) × (after ≡ context)

pub record Signs (context : Kerberos) (payload : List ℕ) (reply : Reply) (after : Kerberos) : Type 0 where
  pub answer : Result (List ℕ) Cause
  pub makes : MakesMic context payload answer
  pub made : IsSignedBy context answer reply after

-- the reply to a check of a MIC token of the peer over the payload
abbrev pub verified : Result (Unit {0}) Cause → Reply
verified (Ok here) = Verified
verified (Err cause) = Refused (error_of cause)

pub record Verifies (context : Kerberos) (token payload : List ℕ) (reply : Reply) (after : Kerberos) : Type 0 where
  pub answer : Result (Unit {0}) Cause
  pub checks : ChecksMic context token payload answer
  pub reply_is : reply ≡ verified answer
  pub stays : after ≡ context

-- the result of a call at a context, with these random octets
abbrev pub Calls : Input → Kerberos → List ℕ → Reply → Kerberos → Type 0
Calls (inputs.Token octets) context random reply after = ⊥
Calls inputs.Start context random reply after = ⊥
Calls (inputs.KdcReply octets) context random reply after = ⊥
Calls (inputs.KdcFault code) context random reply after = ⊥
Calls (inputs.Wrap message) context random reply after = Seals context random message reply after
Calls (inputs.Unwrap message) context random reply after = OpensMessage context message reply after
Calls (inputs.MakeMic payload) context random reply after = Signs context payload reply after
Calls (inputs.VerifyMic token payload) context random reply after = Verifies context token payload reply after
