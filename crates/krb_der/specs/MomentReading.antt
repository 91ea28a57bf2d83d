-- The date and the time of day at the front of octets.
use Rattle.std.specs.Prelude.{ℕ, ◌+◌, ◌-◌, ◌*◌, Bool, false, List, [], ◌∷◌, Option, Some, None, nat_lt, nat_le, ◌==◌, ◌&&◌, if◌then◌else◌, ℤ, pos, ◌+ℤ◌, ◌*ℤ◌}
use Rattle.jiff_core.specs.Calendar.{days_from_civil, days_in_month}
use Rattle.krb_der.specs.Reading.{◌>>=◌}

abbrev pub is_digit : ℕ → Bool
is_digit octet = nat_le 48 octet && nat_le octet 57

-- the number of two digits, and what follows them
unfoldable pub two_in : List ℕ → Option (ℕ × List ℕ)
two_in [] = None
two_in (tens ∷ []) = None
two_in (tens ∷ units ∷ rest) = if is_digit tens && is_digit units then Some (10 * (tens - 48) + (units - 48), rest) else None

-- the number of four digits
unfoldable pub four_in : List ℕ → Option (ℕ × List ℕ)
four_in octets = do
  century ← two_in octets
  year ← two_in century.1
  Some (100 * century.0 + year.0, year.1)

-- the day number of a date, if the calendar has it
unfoldable pub day_in : ℕ → ℕ → ℕ → Option ℤ
day_in year month day =
    if nat_le 1 month && (nat_le month 12 && (nat_le 1 day && nat_le day (days_in_month (pos year) month)))
    then Some (days_from_civil (pos year) month day) else None

-- the day number of the date
unfoldable pub date_in : List ℕ → Option (ℤ × List ℕ)
date_in octets = do
  year ← four_in octets
  month ← two_in year.1
  day ← two_in month.1
  date ← day_in year.0 month.0 day.0
  Some (date, day.1)

-- the second of the day
unfoldable pub clock_in : List ℕ → Option (ℕ × List ℕ)
clock_in octets = do
  hour ← two_in octets
  minute ← two_in hour.1
  second ← two_in minute.1
  if nat_lt hour.0 24 && (nat_lt minute.0 60 && nat_lt second.0 60) then Some (3600 * hour.0 + 60 * minute.0 + second.0, second.1) else None

-- the letter Z and nothing after it
abbrev pub is_zulu : List ℕ → Bool
is_zulu [] = false
is_zulu (letter ∷ []) = letter == 90
is_zulu (letter ∷ more ∷ octets) = false

-- the moment, in seconds from the beginning of 1970
unfoldable pub time_in : List ℕ → Option ℤ
time_in octets = do
  date ← date_in octets
  clock ← clock_in date.1
  if is_zulu clock.1 then Some (date.0 *ℤ pos 86400 +ℤ pos clock.0) else None
