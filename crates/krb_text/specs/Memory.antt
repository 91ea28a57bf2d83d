-- The calls of a source or a sink in memory, as contracts see them.
use Rattle.std.specs.Prelude.{ℕ, ◌+◌, ◌-◌, ◌^◌, min, max, List, Option, Some, None}

-- the calls that are to fail, by their number from 1; the most octets that a call moves, if a number is set; and how many
-- calls there were
pub record Plan : Type 0 where
  pub failing : List ℕ
  pub most : Option ℕ
  pub calls : ℕ

-- the plan after one more call; the count stays at the maximum of its type
abbrev pub next_call : Plan → Plan
next_call plan = record plan { calls = min (plan.calls + 1) (2 ^ 64 - 1) }

-- how many octets a call moves if `count` octets are there and fit: at most the number that is set, or 1 if that is 0
abbrev pub limited : Option ℕ → ℕ → ℕ
limited None count = count
limited (Some most) count = min count (max most 1)
