-- Moments: microseconds since 1970-01-01T00:00:00Z.
use Rattle.std.specs.Prelude.{ℕ}

-- the last moment that a step may be given: the end of 9999-12-28
abbrev pub last_moment : ℕ
last_moment = 253_402_041_599_999_999
