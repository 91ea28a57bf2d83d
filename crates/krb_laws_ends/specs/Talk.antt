-- The messages that two ends wrap and receive, in any order.
use Rattle.std.specs.Prelude.{ℕ, List, [], ◌∷◌, ◌++◌, Ok}
use Rattle.krb_context.specs.declared.context.Kerberos.{Kerberos}
use Rattle.krb_context.specs.Unwraps.{Unwraps, message_number}
use Rattle.krb_laws_ends.specs.Flow.{numbered}
use Rattle.krb_laws_ends.specs.Messages.{Message, text_of, IsSent, wrapped_one, opened_one, IsInTime}

-- an end wraps a message, or receives the message that the other wrapped after a number of others
pub data Turn : Type 0 where
  left_wraps right_wraps : Message → Turn
  left_gets right_gets : ℕ → Message → Turn

module _ (left_number right_number : ℕ) where
  -- each delivered message is one that the other end wraps after as many others as its place says, and comes in time after those that
  -- were delivered to this end
  abbrev pub IsFair : Kerberos → Kerberos → List ℕ → List ℕ → List Turn → Type 0
  IsFair left right left_before right_before [] = Unit {0}
  IsFair left right left_before right_before (left_wraps message ∷ turns) = IsSent left message × IsFair (wrapped_one left) right left_before right_before turns
  IsFair left right left_before right_before (right_wraps message ∷ turns) = IsSent right message
      × IsFair left (wrapped_one right) left_before right_before turns
  IsFair left right left_before right_before (left_gets place message ∷ turns) =
      IsSent (numbered right_number place right) message × IsInTime left_before place
      × IsFair (opened_one (message_number message.received) left) right (left_before ++ place ∷ []) right_before turns
  IsFair left right left_before right_before (right_gets place message ∷ turns) =
      IsSent (numbered left_number place left) message × IsInTime right_before place
      × IsFair left (opened_one (message_number message.received) right) left_before (right_before ++ place ∷ []) turns

-- each delivered message opens to the text that was wrapped
abbrev pub IsUnderstood : Kerberos → Kerberos → List Turn → Type 0
IsUnderstood left right [] = Unit {0}
IsUnderstood left right (left_wraps message ∷ turns) = IsUnderstood (wrapped_one left) right turns
IsUnderstood left right (right_wraps message ∷ turns) = IsUnderstood left (wrapped_one right) turns
IsUnderstood left right (left_gets place message ∷ turns) =
    Unwraps left message.received (Ok (text_of message)) × IsUnderstood (opened_one (message_number message.received) left) right turns
IsUnderstood left right (right_gets place message ∷ turns) =
    Unwraps right message.received (Ok (text_of message)) × IsUnderstood left (opened_one (message_number message.received) right) turns
