-- The reply to a call, as C has it.
use Rattle.std.specs.Prelude.{ℕ, Result, Ok, Err}
use Rattle.krb_c.specs.Codes.{kind_code, cause_code, number_of}
use Rattle.krb_c.specs.declared.reply.Reply.{Reply}
use Rattle.krb_c.specs.declared.reply.Step.{Step}
use Rattle.krb_c.specs.declared.reply.Failure.{Failure}
use Rattle.krb_c.specs.declared.reply.Failure.TheVariants.{Refused, Room, Argument, Handle}
use Rattle.krb_dialogue.specs.declared.dialogue.Next.{Next}
use Rattle.krb_dialogue.specs.declared.dialogue.Next.TheVariants.{AskKdc, SendToken, Established}
use Rattle.krb_sessions.specs.declared.fault.Fault.{Fault}
use Rattle.krb_sessions.specs.declared.fault.Fault.TheVariants.{Refused as RefusedFault, Room as RoomFault}
use Rattle.sspi_core.specs.declared.cause.Cause.{Cause}
use Rattle.sspi_core.specs.declared.cause.Cause.TheVariants.{Memory}
use Rattle.sspi_core.specs.declared.error.Error.{Error}

-- a fault of a session's, as a failure of the call
abbrev pub failure_of : Fault → Failure
failure_of (RefusedFault error) = Refused error
failure_of (RoomFault count) = Room count

-- a reply without a refusal
abbrev pub plain_reply : ℕ → ℕ → Reply
plain_reply status length = record { status = status; kind = 0; cause = 0; number = 0; length = length }

-- 2 if memory ran out, and 1 for each other refusal
abbrev pub refusal_status : Cause → ℕ
refusal_status Memory = 2
refusal_status _ = 1

-- the reply to a refusal
abbrev pub reply_to : Error → Reply
reply_to error = record {
  status = refusal_status error.cause;
  kind = kind_code error.error_type;
  cause = cause_code error.cause;
  number = number_of error.cause;
  length = 0;
}

-- the reply to an answer
abbrev pub reply_of : Result ℕ Failure → Reply
reply_of (Ok length) = plain_reply 0 length
reply_of (Err (Refused error)) = reply_to error
reply_of (Err (Room length)) = plain_reply 3 length
reply_of (Err Argument) = plain_reply 4 0
reply_of (Err Handle) = plain_reply 5 0

-- the reply to a call that returns a number
abbrev pub number_reply : Result ℕ Failure → Reply
number_reply (Ok number) = record { status = 0; kind = 0; cause = 0; number = number; length = 0 }
number_reply (Err failure) = reply_of (Err failure)

-- the next turn, as a number of C's
abbrev pub next_code : Next → ℕ
next_code AskKdc = 0
next_code SendToken = 1
next_code Established = 2

-- the reply to a step of an initiator, and the next turn: 3 if the step failed
abbrev pub step_reply : Result Next Failure → Step
step_reply (Ok next) = record { reply = plain_reply 0 0; next = next_code next }
step_reply (Err failure) = record { reply = reply_of (Err failure); next = 3 }
