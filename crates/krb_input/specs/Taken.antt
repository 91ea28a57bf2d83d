-- The octets that are taken of an input.
use Rattle.std.specs.Prelude.{◌≡◌, ◌≤◌, ◌+◌, List, ℕ, Option, Some, length}
use Rattle.std.specs.Io.KnownBytes.{Consumes}
use Rattle.krb_text.specs.Limits.{max_line, max_input}
use Rattle.krb_text.specs.Lines.{cut}
use Rattle.krb_script.specs.Script.{Reading, reading_at}
use Rattle.krb_script.specs.declared.stop.Stop.TheVariants.{Whole}

-- the reading of the lines with a 0A among the octets that were taken
abbrev pub whole_reading : List ℕ → Reading
whole_reading taken = reading_at (length taken) (cut taken).whole

-- no whole line is bad, and no line is past a limit
abbrev pub IsSound : List ℕ → Type 0
IsSound taken = ((whole_reading taken).stop ≡ Whole) × (length (cut taken).rest ≤ max_line) × (length taken ≤ max_input)

-- a front of the input is taken, of which no more is looked at than one octet past the limit
abbrev pub IsTaken : List ℕ → Option (List ℕ) → List ℕ → Type 0
IsTaken input left_after taken = Consumes (Some input) left_after taken × (length taken ≤ max_input + 1)
