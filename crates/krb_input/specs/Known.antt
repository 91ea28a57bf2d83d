-- The declarations of the lines of an input, and the end of its reading.
use Rattle.std.specs.Prelude.{◌≡◌, ◌+◌, ℕ, List, Option, IfSome}
use Rattle.krb_der.specs.Reading.{◌>>=◌}
use Rattle.krb_script.specs.Items.{item_of}
use Rattle.krb_script.specs.Script.{Declared, nothing_declared, declare, reading_of}
use Rattle.krb_script.specs.declared.stop.Stop.TheVariants.{Whole as WholeStop, Bad as BadStop, Long as LongStop}
use Rattle.krb_input.specs.Taken.{IsTaken, IsSound}
use Rattle.krb_input.specs.declared.ending.Ending.{Ending}
use Rattle.krb_input.specs.declared.ending.Ending.TheVariants.{Whole, Bad, Long, Fault, OutOfMemory}

-- the declarations of the lines so far, and the number of these lines
pub record Known : Type 0 where
  pub so_far : Declared
  pub lines : ℕ

abbrev pub nothing_known : Known
nothing_known = record { so_far = nothing_declared; lines = 0 }

-- the declarations after one more line, which is not skipped
abbrev pub declare_content : Declared → List ℕ → Option Declared
declare_content so_far line = do
  item ← item_of line
  declare so_far item

-- the end of the reading of an input of which these octets were taken: before a bad or a long line, which is the next, or at
-- the end of the input; or before these, if a read failed
abbrev pub EndsAt : List ℕ → List ℕ → Known → Ending → Type 0
EndsAt input taken known Whole = (reading_of input ≡ record { so_far = known.so_far; number = known.lines + 1; stop = WholeStop }) × (taken ≡ input)
EndsAt input taken known Bad = reading_of input ≡ record { so_far = known.so_far; number = known.lines + 1; stop = BadStop }
EndsAt input taken known Long = reading_of input ≡ record { so_far = known.so_far; number = known.lines + 1; stop = LongStop }
EndsAt input taken known Fault = IsSound taken
EndsAt input taken known OutOfMemory = Unit {0}

-- a front of the input that the source had left is taken, if its octets are known
abbrev pub Ends : Option (List ℕ) → Option (List ℕ) → Known → Ending → Type 0
Ends left left_after known ending = IfSome left (λ input. (taken : List ℕ) × IsTaken input left_after taken × EndsAt input taken known ending)
