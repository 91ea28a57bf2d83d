-- The lines that are written.
use Rattle.std.specs.Prelude.{ℕ, List, ◌++◌, codes}
use Rattle.std.specs.Fmt.{decimal}
use Rattle.hex.specs.Hex.{encode_lower}

abbrev pub reply_line : List ℕ → List ℕ
reply_line reply = codes "reply " ++ (encode_lower reply ++ codes "\n")

-- the last line of a whole input
abbrev pub end_line : ℕ → List ℕ
end_line n = codes "end " ++ decimal n ++ codes "\n"
