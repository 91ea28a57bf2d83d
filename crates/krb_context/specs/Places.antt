-- The numbers of opened messages, by the list that never forgets.
-- A number is a place modulo 2^32 (RFC 4121, section 4.2.2: sequence numbers are used modulo their size). Places have no bound.
-- The verdict on a message says whether it is a repetition, or so old that this is unknown (RFC 2743, section 1.2.3).
use Rattle.std.specs.Prelude.{ℕ, ◌+◌, ◌-◌, ◌%◌, ◌^◌, ℤ, pos, ◌+ℤ◌, ◌-ℤ◌, unsigned_abs, fold, Bool, ◌&&◌, nat_le}
use Rattle.std.specs.Prelude.{nat_lt, int_lt, List, [], ◌∷◌, ◌++◌, Option, Some, None, if◌then◌else◌}
use Rattle.std.specs.Int.{int_max, int_rem_euclid}
use Rattle.std.specs.Ordering.{int_eq}
use Rattle.std.specs.List.{list_any}
use Rattle.krb_context.specs.declared.window.NumberVerdict.{NumberVerdict}
use Rattle.krb_context.specs.declared.window.NumberVerdict.TheVariants.{Fresh, Old, Repeated}

-- the number of a place
abbrev pub number_at : ℤ → ℕ
number_at place = unsigned_abs (int_rem_euclid place (pos (2 ^ 32)))

-- how far one number is ahead of another, going round
abbrev pub ahead : ℕ → ℕ → ℕ
ahead from to = (to + (2 ^ 32 - from)) % 2 ^ 32

-- less than half the way round
abbrev pub is_ahead : ℕ → Bool
is_ahead distance = nat_le 1 distance && nat_lt distance (2 ^ 31)

-- the greatest place
abbrev pub greatest : List ℤ → Option ℤ
greatest [] = None
greatest (place ∷ places) = Some (fold int_max place places)

-- the place of a number that arrives after a greatest place: above it if ahead by less than half the way round, otherwise not above it
abbrev pub place_after : Option ℤ → ℕ → ℤ
place_after None number = pos number
place_after (Some newest) number =
    if is_ahead (ahead (number_at newest) number) then newest +ℤ pos (ahead (number_at newest) number) else newest -ℤ pos (ahead number (number_at newest))

-- the place of a number that arrives after these places
abbrev pub place_of : List ℤ → ℕ → ℤ
place_of places number = place_after (greatest places) number

-- a message at this place was opened
abbrev pub was_opened : List ℤ → ℤ → Bool
was_opened places place = list_any (λ opened. int_eq opened place) places

-- the verdict on a place, given the greatest place and the places so far: old from 64 below the greatest
abbrev pub verdict_after : Option ℤ → List ℤ → ℤ → NumberVerdict
verdict_after None places place = Fresh
verdict_after (Some newest) places place =
    if int_lt (newest -ℤ pos 64) place then (if was_opened places place then Repeated else Fresh) else Old

-- the verdict on a number, given the places so far
abbrev pub verdict_of : List ℤ → ℕ → NumberVerdict
verdict_of places number = verdict_after (greatest places) places (place_of places number)

-- the places once a number was opened
abbrev pub opened : List ℤ → ℕ → List ℤ
opened places number = places ++ place_of places number ∷ []
