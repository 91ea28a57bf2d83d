-- Reads and writes that wait, and the lines that they move.
use Rattle.std.specs.Prelude.{ℕ, ◌+◌, ◌-◌, ◌^◌, min, Bool, true, false, List, length}
use Rattle.memchr.specs.Find.{is_byte, places}
use Rattle.std.specs.declared.io.ErrorKind.{ErrorKind}
use Rattle.std.specs.declared.io.ErrorKind.TheVariants.{Interrupted, WouldBlock}

-- an error that is no fault: a signal came, or there is nothing yet and no room yet
abbrev pub passes : ErrorKind → Bool
passes Interrupted = true
passes WouldBlock = true
passes _ = false

-- how many line ends the octets have
abbrev pub lines_in : List ℕ → ℕ
lines_in octets = length (places (is_byte 10) octets)

-- a count of line ends with those of more octets, up to the maximum of its type
abbrev pub more_lines : ℕ → List ℕ → ℕ
more_lines lines octets = min (lines + lines_in octets) (2 ^ 64 - 1)
