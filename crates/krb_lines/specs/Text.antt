-- The last lines that every server of lines writes.
use Rattle.std.specs.Prelude.{ℕ, List, ◌++◌, codes}
use Rattle.std.specs.Fmt.{decimal}

abbrev pub bad_line : ℕ → List ℕ
bad_line n = codes "bad line " ++ decimal n ++ codes "\n"

abbrev pub long_line : ℕ → List ℕ
long_line n = codes "long line " ++ decimal n ++ codes "\n"

abbrev pub stopped_line : ℕ → List ℕ
stopped_line n = codes "stopped " ++ decimal n ++ codes "\n"
