-- Hex digits of either case.
use Rattle.std.specs.Prelude.{ℕ, ◌%◌, ◌==◌, ◌&&◌, Bool, List, length}
use Rattle.std.specs.List.{list_all}
use Rattle.hex.specs.Hex.{is_hex_digit}

-- digits, two for each octet
abbrev pub are_pairs : List ℕ → Bool
are_pairs text = length text % 2 == 0 && list_all is_hex_digit text
