-- The effects of the calls on an initiator in its handle, by the results of the calls.
use Rattle.std.specs.Prelude.{◌≡◌, ℕ, List, length, true, false, Option, Some, None, Result, Ok}
use Rattle.std.specs.Int.{from_be_bytes, w32}
use Rattle.krb_c.specs.declared.reply.Failure.{Failure}
use Rattle.krb_c.specs.declared.reply.Failure.TheVariants.{Refused, Room, Argument, Handle}
use Rattle.krb_c.specs.Failures.{IsMisplaced}
use Rattle.krb_context.specs.Refusals.{Refuses}
use Rattle.krb_dialogue.specs.declared.dialogue.Dialogue.{Dialogue}
use Rattle.krb_dialogue.specs.Dialogues.{is_established}
use Rattle.krb_dialogue.specs.Settings.{IsNew}
use Rattle.krb_sessions.specs.declared.session.Session.{Session}
use Rattle.krb_sessions.specs.Gives.{Delivers, IsShort}
use Rattle.sspi_core.specs.declared.cause.Cause.{Cause}
use Rattle.sspi_core.specs.declared.cause.Cause.TheVariants.{Sequence}
use Rattle.sspi_core.specs.declared.error.Error.{Error}
use Rattle.sspi_core.specs.declared.error.Place.TheVariants.{Elsewhere}
use Rattle.sspi_core.specs.declared.flags.ClientRequestFlags.{ClientRequestFlags}
use Rattle.sspi_core.specs.Kinds.{error_of}

-- a number of C's as flags
abbrev pub flags_from : ℕ → ClientRequestFlags
flags_from bits = record { 0 = bits }

-- the initiator that is made, if the handle was empty
pub record MakesInitiator (target machine : List ℕ) (flags : ℕ) (number : List ℕ) (old : Option Dialogue) (count : ℕ) (new : Option Dialogue) : Type 0 where
  pub dialogue : Dialogue
  pub was_empty : old ≡ None
  pub now : new ≡ Some dialogue
  pub is_new : IsNew target machine (flags_from flags) (from_be_bytes w32 number) dialogue
  pub none_written : count ≡ 0

-- a setting is made
pub record Sets (becomes : Dialogue → Dialogue → Type 0) (old : Option Dialogue) (count : ℕ) (new : Option Dialogue) : Type 0 where
  pub before : Dialogue
  pub after : Dialogue
  pub was : old ≡ Some before
  pub now : new ≡ Some after
  pub is_set : becomes before after
  pub none_written : count ≡ 0

-- octets of the dialogue's go into the buffer
pub record HandsOut (gives : Dialogue → Result (List ℕ) Cause) (initiator : Option Dialogue) (room : List ℕ) (count : ℕ) (out : List ℕ) : Type 0 where
  pub dialogue : Dialogue
  pub was : initiator ≡ Some dialogue
  pub delivers : Delivers (λ octets. gives dialogue ≡ Ok octets) room count out

-- there are none to return
pub record HasNone (gives : Dialogue → Result (List ℕ) Cause) (initiator : Option Dialogue) (error : Error) : Type 0 where
  pub dialogue : Dialogue
  pub was : initiator ≡ Some dialogue
  pub refuses : Refuses Elsewhere (λ answer. answer ≡ gives dialogue) error

-- the buffer is too short for them
pub record HandsShort (gives : Dialogue → Result (List ℕ) Cause) (initiator : Option Dialogue) (room count : ℕ) : Type 0 where
  pub dialogue : Dialogue
  pub was : initiator ≡ Some dialogue
  pub is_short : IsShort (λ octets. gives dialogue ≡ Ok octets) room count

-- why the octets are not returned
abbrev pub HandsNot : (Dialogue → Result (List ℕ) Cause) → Option Dialogue → ℕ → Failure → Type 0
HandsNot gives initiator room (Refused error) = HasNone gives initiator error
HandsNot gives initiator room (Room count) = HandsShort gives initiator room count
HandsNot gives initiator room Argument = ⊥
HandsNot gives initiator room Handle = initiator ≡ None

-- the session of an initiator that is established goes into an empty handle, and the initiator's handle is empty
pub record HandsOver (old : Option Dialogue) (to : Option Session) (count : ℕ) (new : Option Dialogue) (session : Option Session) : Type 0 where
  pub dialogue : Dialogue
  pub was : old ≡ Some dialogue
  pub established : is_established dialogue ≡ true
  pub was_empty : to ≡ None
  pub session_is : session ≡ Some dialogue.session
  pub is_spent : new ≡ None
  pub none_written : count ≡ 0

-- the initiator is not established
pub record IsUnsettled (old : Option Dialogue) (error : Error) : Type 0 where
  pub dialogue : Dialogue
  pub was : old ≡ Some dialogue
  pub unsettled : is_established dialogue ≡ false
  pub error_is : error ≡ error_of Sequence

-- why the session is not moved
abbrev pub HandsNotOver : Option Dialogue → Option Session → Failure → Type 0
HandsNotOver old to (Refused error) = IsUnsettled old error
HandsNotOver old to (Room count) = ⊥
HandsNotOver old to Argument = ⊥
HandsNotOver old to Handle = IsMisplaced old to
