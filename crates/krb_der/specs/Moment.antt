-- Moments, and the octets YYYYMMDDHHMMSSZ that spell them (GeneralizedTime of X.690 11.7, as RFC 4120 5.2.3 has it).
use Rattle.std.specs.Prelude.{◌≡◌, ℕ, zero, suc, ◌+◌, ◌*◌, ◌/◌, ◌%◌, ◌<◌, List, [], ◌∷◌, ◌++◌, nat_lt, if◌then◌else◌, ℤ, pos, negsuc, ◌+ℤ◌, ◌*ℤ◌, ◌≤ℤ◌, unsigned_abs}
use Rattle.jiff_core.specs.Calendar.{IsCivilDate, days_from_civil, days_in_month}

-- a number below 100 as two digits
abbrev pub two_digits : ℕ → List ℕ
two_digits n = (48 + n / 10) ∷ (48 + n % 10) ∷ []

-- a number below 10000 as four
abbrev pub four_digits : ℕ → List ℕ
four_digits n = two_digits (n / 100) ++ two_digits (n % 100)

-- the octets of a date and a time of day: the letter Z ends them
abbrev pub spelled : ℕ → ℕ → ℕ → ℕ → ℕ → ℕ → List ℕ
spelled year month day hour minute second =
    four_digits year ++ (two_digits month ++ (two_digits day ++ (two_digits hour ++ (two_digits minute ++ (two_digits second ++ 90 ∷ [])))))

-- The calendar and the clock have this moment, which is the given number of seconds from the beginning of 1970.
pub record IsMoment (year month day hour minute second : ℕ) (seconds : ℤ) : Type 0 where
  pub date : IsCivilDate (pos year) month day
  pub hour_in : hour < 24
  pub minute_in : minute < 60
  pub second_in : second < 60
  pub is : seconds ≡ days_from_civil (pos year) month day *ℤ pos 86400 +ℤ pos (3600 * hour + 60 * minute + second)

-- The octets spell a moment of the calendar, which is the given number of seconds from the beginning of 1970.
pub record SpellsMoment (seconds : ℤ) (octets : List ℕ) : Type 0 where
  pub year : ℕ
  pub month : ℕ
  pub day : ℕ
  pub hour : ℕ
  pub minute : ℕ
  pub second : ℕ
  pub moment : IsMoment year month day hour minute second seconds
  pub is : octets ≡ spelled year month day hour minute second

-- the years 0000 to 9999
abbrev pub IsTime : ℤ → Type 0
IsTime seconds = (negsuc 62_167_219_199 ≤ℤ seconds) × (seconds ≤ℤ pos 253_402_300_799)

-- a day of the calendar from the year 0 on
pub record Day : Type 0 where
  pub year : ℕ
  pub month : ℕ
  pub day : ℕ

-- the day after it
abbrev pub next_day : Day → Day
next_day d =
    if nat_lt d.day (days_in_month (pos d.year) d.month) then record { year = d.year; month = d.month; day = d.day + 1 } else
    if nat_lt d.month 12 then record { year = d.year; month = d.month + 1; day = 1 } else
    record { year = d.year + 1; month = 1; day = 1 }

-- the day that is the given number of days after 1 January of the year 0
unfoldable pub day_after : ℕ → Day
day_after zero = record { year = 0; month = 1; day = 1 }
day_after (suc n) = next_day (day_after n)

-- the octets of a day and a second of it
abbrev pub day_octets : Day → ℕ → List ℕ
day_octets d second = spelled d.year d.month d.day (second / 3600) (second / 60 % 60) (second % 60)

-- the octets of the moment in seconds from the beginning of 1970, which is 62,167,219,200 seconds after that of the year 0
unfoldable pub time_octets : ℤ → List ℕ
time_octets seconds =
    day_octets (day_after (unsigned_abs (seconds +ℤ pos 62_167_219_200) / 86400)) (unsigned_abs (seconds +ℤ pos 62_167_219_200) % 86400)
