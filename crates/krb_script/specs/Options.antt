-- Options under a condition.
use Rattle.std.specs.Prelude.{Bool, Option, None, if◌then◌else◌}

-- the option if the test holds, otherwise none
abbrev pub if_so : {A : Type 0} → Bool → Option A → Option A
if_so test found = if test then found else None
