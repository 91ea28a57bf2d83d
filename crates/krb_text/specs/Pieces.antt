-- The held part of an input that is read in large pieces.
use Rattle.std.specs.Prelude.{◌≤◌, ◌+◌, ℕ, List, [], length, Option}
use Rattle.std.specs.Io.KnownBytes.{prepend_known}
use Rattle.krb_text.specs.Limits.{max_input}
use Rattle.krb_text.specs.Cutter.{IsLine}

-- the octets that were read and not taken yet, and how many were taken before them
pub record Pieces : Type 0 where
  pub held : List ℕ
  pub taken : ℕ

abbrev pub no_pieces : Pieces
no_pieces = record { held = []; taken = 0 }

-- the octets that are not taken yet, if those of the source are known
abbrev pub ahead : Pieces → Option (List ℕ) → Option (List ℕ)
ahead pieces left = prepend_known pieces.held left

-- no more was read than one octet past the limit
abbrev pub IsWithin : Pieces → Type 0
IsWithin pieces = pieces.taken + length pieces.held ≤ max_input + 1

-- the held octets have no 0A, and neither they nor the input is too long so far
abbrev pub IsBegun : Pieces → Type 0
IsBegun pieces = IsLine pieces.held × (pieces.taken + length pieces.held ≤ max_input)
