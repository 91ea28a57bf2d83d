-- The steps of an initiator in its handle, by what the calls answer.
use Rattle.std.specs.Prelude.{◌≡◌, ◌<◌, ℕ, Option, Some, None, Result, Ok, Err}
use Rattle.krb_c.specs.declared.reply.Failure.{Failure}
use Rattle.krb_c.specs.declared.reply.Failure.TheVariants.{Refused, Room, Argument, Handle}
use Rattle.krb_dialogue.specs.declared.dialogue.Dialogue.{Dialogue}
use Rattle.krb_dialogue.specs.declared.dialogue.Next.{Next}
use Rattle.krb_dialogue.specs.declared.dialogue.Next.TheVariants.{AskKdc}
use Rattle.krb_dialogue.specs.Dialogues.{requests_left}
use Rattle.krb_dialogue.specs.Outcomes.{IsNetwork}
use Rattle.krb_dialogue.specs.Steps.{Steps}
use Rattle.sspi_core.specs.declared.cause.Cause.TheVariants.{Memory}
use Rattle.sspi_core.specs.declared.error.Error.{Error}
use Rattle.sspi_core.specs.Kinds.{error_of}

-- at most twelve requests go to KDCs in an exchange, and each answer leaves fewer
abbrev pub twelve : Dialogue → ℕ
twelve dialogue = 12

abbrev pub those_left : Dialogue → ℕ
those_left dialogue = requests_left dialogue.turn

-- the step is taken, and leads to this; where a KDC is asked, fewer requests are left
pub record StepsTo (steps : Dialogue → Result Next Error → Dialogue → Type 0) (most : Dialogue → ℕ) (old new : Option Dialogue) (next : Next) : Type 0 where
  pub before : Dialogue
  pub after : Dialogue
  pub was : old ≡ Some before
  pub now : new ≡ Some after
  pub step : Steps (steps before) (Ok next) after
  pub turns : next ≡ AskKdc → requests_left after.turn < most before

-- it is refused, and the dialogue is as the step leaves it: where memory runs out as before
pub record StepRefuses (steps : Dialogue → Result Next Error → Dialogue → Type 0) (old new : Option Dialogue) (error : Error) : Type 0 where
  pub before : Dialogue
  pub after : Dialogue
  pub was : old ≡ Some before
  pub now : new ≡ Some after
  pub step : Steps (steps before) (Err error) after
  pub memory : error ≡ error_of Memory → after ≡ before

-- no initiator is there, and none is made
pub record IsNobody (old new : Option Dialogue) : Type 0 where
  pub was_empty : old ≡ None
  pub stays : new ≡ None

-- why the step leads to nothing: it is refused, an argument is unfit, or no initiator is there
abbrev pub StepsNot : Type 0 → (Dialogue → Result Next Error → Dialogue → Type 0) → Option Dialogue → Option Dialogue → Failure → Type 0
StepsNot unfit steps old new (Refused error) = StepRefuses steps old new error
StepsNot unfit steps old new (Room count) = ⊥
StepsNot unfit steps old new Argument = unfit × (new ≡ old)
StepsNot unfit steps old new Handle = IsNobody old new

-- no refusal is one of the network's
abbrev pub IsNoNetwork : Failure → Type 0
IsNoNetwork (Refused error) = IsNetwork error → ⊥
IsNoNetwork _ = Unit {0}
