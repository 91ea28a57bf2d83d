-- The octets of a moment are those that spell it, and what is read is spelled so.
use Rattle.std.proofs.Common.{◌≡◌, ℕ, zero, suc, ◌+◌, ◌-◌, ◌*◌, ◌/◌, ◌%◌, ◌<◌, ◌≤◌, inl, inr, List, refl, sym, ap, ◌∙◌, arith, ℤ, pos, negsuc, ◌+ℤ◌, ◌≤ℤ◌, unsigned_abs}
use Rattle.std.specs.Int.{IsInRange}
use Rattle.std.proofs.lemmas.Bool.{cases_lt, lt-ltb, le-ltb}
use Rattle.jiff_core.specs.Calendar.{IsCivilDate, days_from_civil, days_in_month, day_count}
use Rattle.jiff_core.proofs.SignedLemmas.{signed_arith}
use Rattle.jiff_core.proofs.MarchLemmas.{day_count-early}
use Rattle.jiff_core.proofs.CalendarLemmas.{day_count-day, day_count-next_month, day_count-next_year, day_count-last_of_year, day_count-lt_year, days_from_civil-day_count, days_in_month_bounds, day_count-end, day_count-later_year, day_count-day_of_year, day_count_bounds}
use Rattle.jiff_core.specs.declared.civil.date.Date.{Date}
use Rattle.jiff_core.specs.Date.{epoch_day}
use Rattle.jiff_core.proofs.DateLemmas.{epoch_day_injective}
use Rattle.krb_der.specs.Moment.{spelled, IsMoment, SpellsMoment, IsTime, Day, next_day, day_after, day_octets, time_octets}
use borrow.Author.Differences.{up, down}

day_count-zero : day_count (pos 0) 1 1 ≡ 3_652_425
day_count-zero = day_count-early _ 9999 1 1 refl (omega arith) (omega arith) (omega arith)

-- the calendar has the day d, which is n days after 1 January of the year 0
record IsAfter (d : Day) (n : ℕ) : Type 0 where
  month_in : IsInRange 1 12 d.month
  day_in : IsInRange 1 (days_in_month (pos d.year) d.month) d.day
  count : day_count (pos d.year) d.month d.day ≡ n + 3_652_425

next_in_month : (d : Day) (n : ℕ) → IsAfter d n → d.day < days_in_month (pos d.year) d.month → IsAfter (record { year = d.year; month = d.month; day = d.day + 1 }) (suc n)
next_in_month d n h lt = record {
  month_in = h.month_in;
  day_in = omega arith;
  count = omega (arith, day_count-day (pos d.year) d.month d.day (d.day + 1) h.day_in.0 (omega arith), h.count);
}

next_month : (d : Day) (n : ℕ) → IsAfter d n → days_in_month (pos d.year) d.month ≤ d.day → d.month < 12 → IsAfter (record { year = d.year; month = d.month + 1; day = 1 }) (suc n)
next_month d n h le lt =
    let enough = days_in_month_bounds (pos d.year) (d.month + 1) in
    record {
      month_in = (omega arith, omega arith);
      day_in = (omega arith, omega arith);
      count = omega (arith, day_count-day (pos d.year) d.month d.day 1 h.day_in.0 (omega arith), day_count-next_month (pos d.year) d.month h.month_in.0, h.count, h.day_in.1);
    }

next_year : (d : Day) (n : ℕ) → IsAfter d n → days_in_month (pos d.year) d.month ≤ d.day → 12 ≤ d.month → IsAfter (record { year = d.year + 1; month = 1; day = 1 }) (suc n)
next_year d n h le last =
    let december : d.month ≡ 12 = omega (arith, h.month_in.1) in
    let long : 31 ≤ d.day = rw december at le in
    let short : d.day ≤ 31 = rw december at h.day_in.1 in
    let count : day_count (pos d.year) 12 d.day ≡ n + 3_652_425 = rw december at h.count in
    record {
      month_in = (omega arith, omega arith);
      day_in = (omega arith, omega arith);
      count = omega (arith, day_count-day (pos d.year) 12 d.day 31 h.day_in.0 (omega arith), day_count-last_of_year (pos d.year), day_count-next_year (pos d.year) (pos (d.year + 1)) (omega (arith, signed_arith)) refl, count);
    }

next_is : (d : Day) (n : ℕ) → IsAfter d n → IsAfter (next_day d) (suc n)
next_is d n h =
    elim (cases_lt d.day (days_in_month (pos d.year) d.month)) [
      | inl lt ↦ rw (lt-ltb d.day (days_in_month (pos d.year) d.month) lt) (next_in_month d n h lt)
      | inr le ↦ elim (cases_lt d.month 12) [
        | inl lt ↦ rw (le-ltb d.day (days_in_month (pos d.year) d.month) le, lt-ltb d.month 12 lt) (next_month d n h le lt)
        | inr last ↦ rw (le-ltb d.day (days_in_month (pos d.year) d.month) le, le-ltb d.month 12 last) (next_year d n h le last)
      ]
    ]

day_after_is : (n : ℕ) → IsAfter (day_after n) n
unfolding day_after
day_after_is zero = record { month_in = (omega arith, omega arith); day_in = (omega arith, omega arith); count = day_count-zero }
day_after_is (suc n) = next_is (day_after n) n (day_after_is n)

day_count-last : day_count (pos 9999) 12 31 ≡ 7_304_849
day_count-last = omega (arith, day_count-last_of_year (pos 9999), day_count-next_year (pos 9999) (pos 10000) (omega (arith, signed_arith)) refl, day_count-end)

-- a day before the year 10000 is one that the library has
day_is_civil : (n : ℕ) → n < 3_652_425 → IsCivilDate (pos (day_after n).year) (day_after n).month (day_after n).day
day_is_civil n lt =
    let d = day_after n in
    let h = day_after_is n in
    let year : d.year ≤ 9999 = elim (cases_lt 9999 d.year) [
      | inl late ↦ absurd (omega (arith, day_count-lt_year (pos 9999) 12 31 (pos d.year) d.month d.day ((omega (arith, signed_arith), omega (arith, signed_arith)), (omega arith, omega arith), (omega arith, omega arith)) h.day_in.0 (omega (arith, signed_arith)), h.count, day_count-last))
      | inr le ↦ le
    ] in
    ((omega (arith, signed_arith), omega (arith, signed_arith)), h.month_in, h.day_in)

-- two days with one day number are one
module _ (y m d y2 m2 d2 : ℕ) (a : IsCivilDate (pos y) m d) (b : IsCivilDate (pos y2) m2 d2) where
  same_day : day_count (pos y) m d ≡ day_count (pos y2) m2 d2 → (y ≡ y2) × (m ≡ m2) × (d ≡ d2)
  same_day e =
      let first : Date = record { year = pos y; month = m; day = d; year_in = a.0; month_in = a.1; day_in = a.2 } in
      let second : Date = record { year = pos y2; month = m2; day = d2; year_in = b.0; month_in = b.1; day_in = b.2 } in
      let day : days_from_civil (pos y) m d ≡ days_from_civil (pos y2) m2 d2 = omega (arith, signed_arith, days_from_civil-day_count (pos y) m d, days_from_civil-day_count (pos y2) m2 d2, e) in
      let same = epoch_day_injective first second day in
      (omega (arith, signed_arith, same.0), same.1, same.2)

not_negative : (z : ℤ) → pos 0 ≤ℤ z → pos (unsigned_abs z) ≡ z
not_negative (pos n) h = refl
not_negative (negsuc n) h = absurd (omega (arith, signed_arith))

pub time_is_spelled : (seconds : ℤ) → IsTime seconds → SpellsMoment seconds (time_octets seconds)
unfolding time_octets
time_is_spelled seconds range =
    let n : ℕ = unsigned_abs (seconds +ℤ pos 62_167_219_200) in
    let all : pos n ≡ seconds +ℤ pos 62_167_219_200 = not_negative (seconds +ℤ pos 62_167_219_200) (omega (arith, signed_arith)) in
    let below : n / 86400 < 3_652_425 = omega (arith, signed_arith, all) in
    let d = day_after (n / 86400) in
    let h = day_after_is (n / 86400) in
    record {
      year = d.year;
      month = d.month;
      day = d.day;
      hour = n % 86400 / 3600;
      minute = n % 86400 / 60 % 60;
      second = n % 86400 % 60;
      moment = record {
        date = day_is_civil (n / 86400) below;
        hour_in = omega arith;
        minute_in = omega arith;
        second_in = omega arith;
        is = omega (arith, signed_arith, days_from_civil-day_count (pos d.year) d.month d.day, h.count, all);
      };
      is = refl;
    }

first_of_year : (year : ℕ) → 3_652_425 ≤ day_count (pos year) 1 1
first_of_year zero = omega (arith, day_count-zero)
first_of_year (suc year) = omega (arith, day_count-zero, day_count-later_year (pos 0) (pos (suc year)) (omega (arith, signed_arith)) (omega (arith, signed_arith)))

-- the seconds of a moment from the beginning of the year 0: its days, and its second of the day
module _ (year month day hour minute second : ℕ) (seconds : ℤ) (m : IsMoment year month day hour minute second seconds) where
  days : ℕ
  days = day_count (pos year) month day - 3_652_425

  days_are : day_count (pos year) month day ≡ days + 3_652_425
  unfolding days
  days_are = omega (arith, first_of_year year, day_count-day_of_year (pos year) month day m.date.2.0)

  seconds_are : seconds +ℤ pos 62_167_219_200 ≡ pos (86400 * days + (3600 * hour + 60 * minute + second))
  seconds_are = omega (arith, signed_arith, m.is, days_from_civil-day_count (pos year) month day, days_are)

  moment_in : IsTime seconds
  moment_in =
      let bounds = day_count_bounds (pos year) month day m.date in
      (omega (arith, signed_arith, seconds_are), omega (arith, signed_arith, seconds_are, days_are, bounds, m.hour_in, m.minute_in, m.second_in))

  is_that_day : (day_after days).year ≡ year × (day_after days).month ≡ month × (day_after days).day ≡ day
  is_that_day =
      let bounds = day_count_bounds (pos year) month day m.date in
      same_day _ _ _ year month day (day_is_civil days (omega (arith, days_are))) m.date ((day_after_is days).count ∙ sym days_are)

  moment_spelled : spelled year month day hour minute second ≡ time_octets seconds
  unfolding time_octets
  moment_spelled =
      let n : ℕ = 86400 * days + (3600 * hour + 60 * minute + second) in
      let same = is_that_day in
      let all : unsigned_abs (seconds +ℤ pos 62_167_219_200) ≡ n = ap unsigned_abs seconds_are in
      let whole : n / 86400 ≡ days = omega (arith, m.hour_in, m.minute_in, m.second_in) in
      let part : n % 86400 ≡ 3600 * hour + 60 * minute + second = omega (arith, m.hour_in, m.minute_in, m.second_in) in
      let h : (3600 * hour + 60 * minute + second) / 3600 ≡ hour = omega (arith, m.minute_in, m.second_in) in
      let mi : (3600 * hour + 60 * minute + second) / 60 % 60 ≡ minute = omega (arith, m.minute_in, m.second_in) in
      let s : (3600 * hour + 60 * minute + second) % 60 ≡ second = omega (arith, m.second_in) in
      rw (all, whole, part, h, mi, s, same.0, same.1, same.2) refl

pub spelled_is_time : (seconds : ℤ) (octets : List ℕ) → SpellsMoment seconds octets → IsTime seconds × (octets ≡ time_octets seconds)
spelled_is_time seconds octets s =
    (moment_in s.year s.month s.day s.hour s.minute s.second seconds s.moment, s.is ∙ moment_spelled s.year s.month s.day s.hour s.minute s.second seconds s.moment)

-- a date from the year 0 on has a day number from that of its first day on
pub day_from_zero : (year : ℤ) (month day : ℕ) → IsCivilDate year month day → pos 0 ≤ℤ year → negsuc 719_527 ≤ℤ days_from_civil year month day
day_from_zero (pos year) month day h from = omega (arith, signed_arith, first_of_year year, day_count-day_of_year (pos year) month day h.2.0, days_from_civil-day_count (pos year) month day)
day_from_zero (negsuc year) month day h from = absurd (omega (arith, signed_arith))

-- a date that was found for a day is that day
pub day_is : (d : Date) (n : ℕ) → n < 3_652_425 → epoch_day d +ℤ pos 719_528 ≡ pos n → (d.year ≡ pos (day_after n).year) × (d.month ≡ (day_after n).month) × (d.day ≡ (day_after n).day)
day_is d n lt e =
    let h = day_after_is n in
    let c = day_is_civil n lt in
    let other : Date = record { year = pos (day_after n).year; month = (day_after n).month; day = (day_after n).day; year_in = c.0; month_in = c.1; day_in = c.2 } in
    let same : epoch_day d ≡ epoch_day other = omega (arith, signed_arith, e, h.count, days_from_civil-day_count (pos (day_after n).year) (day_after n).month (day_after n).day) in
    epoch_day_injective d other same

pub time_octets_from : (seconds : ℤ) (n : ℕ) → seconds +ℤ pos 62_167_219_200 ≡ pos n → day_octets (day_after (n / 86400)) (n % 86400) ≡ time_octets seconds
unfolding time_octets
time_octets_from seconds n e =
    let all : unsigned_abs (seconds +ℤ pos 62_167_219_200) ≡ n = ap unsigned_abs e in
    rw all refl

-- the same, for `omega`
pub abs_of_not_negative : (z : ℤ) → down z ≤ up z → unsigned_abs z + down z ≡ up z
abs_of_not_negative (pos n) h = omega arith
abs_of_not_negative (negsuc n) h = omega arith
