-- The draws that a step may be given.
use Rattle.std.specs.Prelude.{◌≤◌, List, [], ◌∷◌}
use Rattle.sspi_core.specs.Moments.{last_moment}
use Rattle.sspi_core.specs.declared.draw.Draw.{Draw}

-- its moment lies between the beginning of 1970 and the last one
abbrev pub IsInRange : Draw → Type 0
IsInRange draw = draw.moment ≤ last_moment

abbrev pub AreInRange : List Draw → Type 0
AreInRange [] = Unit {0}
AreInRange (draw ∷ draws) = IsInRange draw × AreInRange draws
