-- The calls of one end, one after another, and the numbers of what it makes.
use Rattle.std.specs.Prelude.{◌≡◌, ℕ, List, [], ◌∷◌, take, Ok}
use Rattle.sspi_core.specs.Buffer.{Buffer}
use Rattle.krb_context.specs.declared.context.Kerberos.{Kerberos}
use Rattle.krb_context.specs.ClearWraps.{WrapsClear}
use Rattle.krb_context.specs.Contexts.{next_number}
use Rattle.krb_context.specs.Header.{number_of}
use Rattle.krb_context.specs.Mics.{MakesMic}
use Rattle.krb_context.specs.Unwraps.{message_number}
use Rattle.krb_context.specs.Wraps.{Wraps}

-- a call and what it gave
pub data Call : Type 0 where
  -- a wrap that was made, of buffers with a confounder
  wraps : (confounder : List ℕ) (sent made : List Buffer) → Call
  -- a wrap in the clear that was made, of a text
  clears : (plain token : List ℕ) → Call
  -- a MIC token that was made, over a payload
  signs : (payload token : List ℕ) → Call
  -- a wrap or a MIC token that was refused, for whatever cause
  refused : Call
  -- another call, as one that opens or verifies, which leaves the context like this
  other : (next : Kerberos) → Call

-- the context once a number was taken
abbrev pub with_next_number : Kerberos → Kerberos
with_next_number context = record context { seq_number = next_number context.seq_number }

-- the context after a call
abbrev pub after_call : Kerberos → Call → Kerberos
after_call context (wraps confounder sent made) = with_next_number context
after_call context (clears plain token) = with_next_number context
after_call context (signs payload token) = with_next_number context
after_call context refused = context
after_call context (other next) = next

-- a context may make this call; one that neither wraps nor signs leaves the number
abbrev pub IsCall : Kerberos → Call → Type 0
IsCall context (wraps confounder sent made) = Wraps context confounder sent (Ok made)
IsCall context (clears plain token) = WrapsClear context plain (Ok token)
IsCall context (signs payload token) = MakesMic context payload (Ok token)
IsCall context refused = Unit {0}
IsCall context (other next) = next.seq_number ≡ context.seq_number

-- the calls follow one another
abbrev pub AreCalls : Kerberos → List Call → Type 0
AreCalls context [] = Unit {0}
AreCalls context (call ∷ calls) = IsCall context call × AreCalls (after_call context call) calls

-- the numbers of the messages and tokens that were made, in order
abbrev pub made_numbers : List Call → List ℕ
made_numbers [] = []
made_numbers (wraps confounder sent made ∷ calls) = message_number made ∷ made_numbers calls
made_numbers (clears plain token ∷ calls) = number_of (take 16 token) ∷ made_numbers calls
made_numbers (signs payload token ∷ calls) = number_of (take 16 token) ∷ made_numbers calls
made_numbers (refused ∷ calls) = made_numbers calls
made_numbers (other next ∷ calls) = made_numbers calls
