-- The date and the time of day that are read are those at the front of the octets.
use Rattle.std.proofs.Common.{◌≡◌, ℕ, ◌+◌, ◌-◌, ◌*◌, ◌/◌, ◌%◌, ◌<◌, ◌≤◌, Bool, true, cond, nat_lt, List, [], ◌∷◌, ◌++◌, Some, None, refl, sym, ap, ◌∙◌, arith, ℤ, pos, ◌+ℤ◌, ◌*ℤ◌}
use Rattle.std.specs.Prelude.{◌&&◌, nat_le, Result, Ok, Err, IfOk, OnErr}
use Rattle.std.proofs.lemmas.Bool.{and_parts, leb-true, le-leb, ltb-true, lt-ltb, eqb-true}
use Rattle.std.proofs.lemmas.Option.{some_pair_parts, none-some, cond_some}
use Rattle.jiff_core.specs.Calendar.{IsCivilDate, days_from_civil, days_in_month}
use Rattle.jiff_core.proofs.CalendarLemmas.{days_in_month_bounds}
use Rattle.jiff_core.proofs.SignedLemmas.{signed_arith}
use Rattle.krb_der.specs.Reading.{◌>>=◌, Gives}
use Rattle.krb_der.specs.Moment.{two_digits, four_digits, SpellsMoment}
use Rattle.krb_der.specs.MomentReading.{is_digit, two_in, four_in, day_in, date_in, clock_in, is_zulu, time_in}
use Rattle.krb_der.proofs.Steps.{bind_some}

digit_parts : (c : ℕ) → is_digit c ≡ true → (48 ≤ c) × (c ≤ 57)
digit_parts c e = let p = and_parts (nat_le 48 c) (nat_le c 57) e in (leb-true 48 c p.0, leb-true c 57 p.1)

is_digit_of : (c : ℕ) → 48 ≤ c → c ≤ 57 → is_digit c ≡ true
is_digit_of c low high = rw (le-leb 48 c low, le-leb c 57 high) refl

record TwoFound (octets : List ℕ) (n : ℕ) (rest : List ℕ) : Type 0 where
  below : n < 100
  is : octets ≡ two_digits n ++ rest

two_found : (octets : List ℕ) (n : ℕ) (rest : List ℕ) → two_in octets ≡ Some (n, rest) → TwoFound octets n rest
unfolding two_in
two_found [] n rest e = absurd (none-some (n, rest) e)
two_found (a ∷ []) n rest e = absurd (none-some (n, rest) e)
two_found (a ∷ b ∷ octets) n rest e =
    let p = cond_some (is_digit a && is_digit b) (10 * (a - 48) + (b - 48), octets) (n, rest) e in
    let t = and_parts (is_digit a) (is_digit b) p.0 in
    let tens = digit_parts a t.0 in
    let units = digit_parts b t.1 in
    let number : 10 * (a - 48) + (b - 48) ≡ n = ap (λ (x : ℕ × List ℕ). x.0) p.1 in
    let after : octets ≡ rest = ap (λ (x : ℕ × List ℕ). x.1) p.1 in
    let first : 48 + n / 10 ≡ a = omega arith in
    let second : 48 + n % 10 ≡ b = omega arith in
    record { below = omega arith; is = rw (first, second, after) refl }

two_again : (n : ℕ) (rest : List ℕ) → n < 100 → two_in (two_digits n ++ rest) ≡ Some (n, rest)
unfolding two_in
two_again n rest lt =
    let number : 10 * (48 + n / 10 - 48) + (48 + n % 10 - 48) ≡ n = omega arith in
    rw (is_digit_of (48 + n / 10) (omega arith) (omega arith), is_digit_of (48 + n % 10) (omega arith) (omega arith), number) refl

record FourFound (octets : List ℕ) (n : ℕ) (rest : List ℕ) : Type 0 where
  below : n < 10000
  is : octets ≡ four_digits n ++ rest

four_found : (octets : List ℕ) (n : ℕ) (rest : List ℕ) → four_in octets ≡ Some (n, rest) → FourFound octets n rest
unfolding four_in
four_found octets n rest e =
    let c = bind_some (two_in octets) (λ century. two_in century.1 >>= λ year. Some (100 * century.0 + year.0, year.1)) (n, rest) e in
    let y = bind_some (two_in c.0.1) (λ year. Some (100 * c.0.0 + year.0, year.1)) (n, rest) c.2 in
    let p = some_pair_parts (100 * c.0.0 + y.0.0) n y.0.1 rest y.2 in
    let century = two_found octets c.0.0 c.0.1 c.1 in
    let year = two_found c.0.1 y.0.0 y.0.1 y.1 in
    let high : n / 100 ≡ c.0.0 = omega (arith, p.0, century.below, year.below) in
    let low : n % 100 ≡ y.0.0 = omega (arith, p.0, century.below, year.below) in
    record {
      below = omega (arith, p.0, century.below, year.below);
      is = century.is ∙ ap (λ (w : List ℕ). two_digits c.0.0 ++ w) (year.is ∙ ap (λ (w : List ℕ). two_digits y.0.0 ++ w) p.1) ∙ rw (high, low) refl;
    }

four_again : (n : ℕ) (rest : List ℕ) → n < 10000 → four_in (four_digits n ++ rest) ≡ Some (n, rest)
unfolding four_in
four_again n rest lt =
    let number : 100 * (n / 100) + n % 100 ≡ n = omega arith in
    rw (two_again (n / 100) (two_digits (n % 100) ++ rest) (omega arith), two_again (n % 100) rest (omega arith), number) refl

record DateFound (octets : List ℕ) (number : ℤ) (rest : List ℕ) : Type 0 where
  year : ℕ
  month : ℕ
  day : ℕ
  date : IsCivilDate (pos year) month day
  is : octets ≡ four_digits year ++ (two_digits month ++ (two_digits day ++ rest))
  number_is : number ≡ days_from_civil (pos year) month day

abbrev is_day : ℕ → ℕ → ℕ → Bool
is_day year month day = nat_le 1 month && (nat_le month 12 && (nat_le 1 day && nat_le day (days_in_month (pos year) month)))

day_parts : (year month day : ℕ) → year < 10000 → is_day year month day ≡ true → IsCivilDate (pos year) month day
day_parts year month day lt e =
    let a = and_parts (nat_le 1 month) (nat_le month 12 && (nat_le 1 day && nat_le day (days_in_month (pos year) month))) e in
    let b = and_parts (nat_le month 12) (nat_le 1 day && nat_le day (days_in_month (pos year) month)) a.1 in
    let c = and_parts (nat_le 1 day) (nat_le day (days_in_month (pos year) month)) b.1 in
    ((omega (arith, signed_arith), omega (arith, signed_arith)), (leb-true 1 month a.0, leb-true month 12 b.0), (leb-true 1 day c.0, leb-true day (days_in_month (pos year) month) c.1))

pub day_again : (year month day : ℕ) → IsCivilDate (pos year) month day → day_in year month day ≡ Some (days_from_civil (pos year) month day)
unfolding day_in
day_again year month day h = rw (le-leb 1 month h.1.0, le-leb month 12 h.1.1, le-leb 1 day h.2.0, le-leb day (days_in_month (pos year) month) h.2.1) refl

date_found : (octets : List ℕ) (number : ℤ) (rest : List ℕ) → date_in octets ≡ Some (number, rest) → DateFound octets number rest
unfolding date_in day_in
date_found octets number rest e =
    let y = bind_some (four_in octets) (λ year. two_in year.1 >>= λ month. two_in month.1 >>= λ day. day_in year.0 month.0 day.0 >>= λ date. Some (date, day.1)) (number, rest) e in
    let m = bind_some (two_in y.0.1) (λ month. two_in month.1 >>= λ day. day_in y.0.0 month.0 day.0 >>= λ date. Some (date, day.1)) (number, rest) y.2 in
    let d = bind_some (two_in m.0.1) (λ day. day_in y.0.0 m.0.0 day.0 >>= λ date. Some (date, day.1)) (number, rest) m.2 in
    let n = bind_some (day_in y.0.0 m.0.0 d.0.0) (λ date. Some (date, d.0.1)) (number, rest) d.2 in
    let p = some_pair_parts n.0 number d.0.1 rest n.2 in
    let year = four_found octets y.0.0 y.0.1 y.1 in
    let month = two_found y.0.1 m.0.0 m.0.1 m.1 in
    let day = two_found m.0.1 d.0.0 d.0.1 d.1 in
    let test = cond_some (is_day y.0.0 m.0.0 d.0.0) (days_from_civil (pos y.0.0) m.0.0 d.0.0) n.0 n.1 in
    record {
      year = y.0.0;
      month = m.0.0;
      day = d.0.0;
      date = day_parts y.0.0 m.0.0 d.0.0 year.below test.0;
      is = year.is ∙ ap (λ (w : List ℕ). four_digits y.0.0 ++ w) (month.is ∙ ap (λ (w : List ℕ). two_digits m.0.0 ++ w) (day.is ∙ ap (λ (w : List ℕ). two_digits d.0.0 ++ w) p.1));
      number_is = sym p.0 ∙ sym test.1;
    }

date_again : (year month day : ℕ) (rest : List ℕ) → IsCivilDate (pos year) month day → date_in (four_digits year ++ (two_digits month ++ (two_digits day ++ rest))) ≡ Some (days_from_civil (pos year) month day, rest)
unfolding date_in
date_again year month day rest h =
    let y = four_again year (two_digits month ++ (two_digits day ++ rest)) (omega (arith, signed_arith, h.0.1)) in
    let m = two_again month (two_digits day ++ rest) (omega (arith, h.1.1)) in
    let d = two_again day rest (omega (arith, h.2.1, days_in_month_bounds (pos year) month)) in
    rw (y, m, d, day_again year month day h) refl

record ClockFound (octets : List ℕ) (number : ℕ) (rest : List ℕ) : Type 0 where
  hour : ℕ
  minute : ℕ
  second : ℕ
  hour_in : hour < 24
  minute_in : minute < 60
  second_in : second < 60
  is : octets ≡ two_digits hour ++ (two_digits minute ++ (two_digits second ++ rest))
  number_is : number ≡ 3600 * hour + 60 * minute + second

clock_found : (octets : List ℕ) (number : ℕ) (rest : List ℕ) → clock_in octets ≡ Some (number, rest) → ClockFound octets number rest
unfolding clock_in
clock_found octets number rest e =
    let h = bind_some (two_in octets) (λ hour. two_in hour.1 >>= λ minute. two_in minute.1 >>= λ second. cond (nat_lt hour.0 24 && (nat_lt minute.0 60 && nat_lt second.0 60)) (Some (3600 * hour.0 + 60 * minute.0 + second.0, second.1)) None) (number, rest) e in
    let m = bind_some (two_in h.0.1) (λ minute. two_in minute.1 >>= λ second. cond (nat_lt h.0.0 24 && (nat_lt minute.0 60 && nat_lt second.0 60)) (Some (3600 * h.0.0 + 60 * minute.0 + second.0, second.1)) None) (number, rest) h.2 in
    let s = bind_some (two_in m.0.1) (λ second. cond (nat_lt h.0.0 24 && (nat_lt m.0.0 60 && nat_lt second.0 60)) (Some (3600 * h.0.0 + 60 * m.0.0 + second.0, second.1)) None) (number, rest) m.2 in
    let test = cond_some (nat_lt h.0.0 24 && (nat_lt m.0.0 60 && nat_lt s.0.0 60)) (3600 * h.0.0 + 60 * m.0.0 + s.0.0, s.0.1) (number, rest) s.2 in
    let a = and_parts (nat_lt h.0.0 24) (nat_lt m.0.0 60 && nat_lt s.0.0 60) test.0 in
    let b = and_parts (nat_lt m.0.0 60) (nat_lt s.0.0 60) a.1 in
    let after : s.0.1 ≡ rest = ap (λ (x : ℕ × List ℕ). x.1) test.1 in
    record {
      hour = h.0.0;
      minute = m.0.0;
      second = s.0.0;
      hour_in = ltb-true h.0.0 24 a.0;
      minute_in = ltb-true m.0.0 60 b.0;
      second_in = ltb-true s.0.0 60 b.1;
      is = (two_found octets h.0.0 h.0.1 h.1).is ∙ ap (λ (w : List ℕ). two_digits h.0.0 ++ w) ((two_found h.0.1 m.0.0 m.0.1 m.1).is ∙ ap (λ (w : List ℕ). two_digits m.0.0 ++ w) ((two_found m.0.1 s.0.0 s.0.1 s.1).is ∙ ap (λ (w : List ℕ). two_digits s.0.0 ++ w) after));
      number_is = sym (ap (λ (x : ℕ × List ℕ). x.0) test.1);
    }

clock_again : (hour minute second : ℕ) (rest : List ℕ) → hour < 24 → minute < 60 → second < 60 → clock_in (two_digits hour ++ (two_digits minute ++ (two_digits second ++ rest))) ≡ Some (3600 * hour + 60 * minute + second, rest)
unfolding clock_in
clock_again hour minute second rest h m s =
    let first = two_again hour (two_digits minute ++ (two_digits second ++ rest)) (omega arith) in
    let next = two_again minute (two_digits second ++ rest) (omega arith) in
    let last = two_again second rest (omega arith) in
    rw (first, next, last, lt-ltb hour 24 h, lt-ltb minute 60 m, lt-ltb second 60 s) refl

zulu_is : (octets : List ℕ) → is_zulu octets ≡ true → octets ≡ 90 ∷ []
zulu_is [] e = absurd cc
zulu_is (a ∷ []) e = ap (λ b. b ∷ []) (eqb-true a 90 e)
zulu_is (a ∷ b ∷ octets) e = absurd cc

pub time_found : (octets : List ℕ) (seconds : ℤ) → time_in octets ≡ Some seconds → SpellsMoment seconds octets
unfolding time_in
time_found octets seconds e =
    let d = bind_some (date_in octets) (λ date. clock_in date.1 >>= λ clock. cond (is_zulu clock.1) (Some (date.0 *ℤ pos 86400 +ℤ pos clock.0)) None) seconds e in
    let c = bind_some (clock_in d.0.1) (λ clock. cond (is_zulu clock.1) (Some (d.0.0 *ℤ pos 86400 +ℤ pos clock.0)) None) seconds d.2 in
    let test = cond_some (is_zulu c.0.1) (d.0.0 *ℤ pos 86400 +ℤ pos c.0.0) seconds c.2 in
    let date = date_found octets d.0.0 d.0.1 d.1 in
    let clock = clock_found d.0.1 c.0.0 c.0.1 c.1 in
    record {
      year = date.year;
      month = date.month;
      day = date.day;
      hour = clock.hour;
      minute = clock.minute;
      second = clock.second;
      moment = record { date = date.date; hour_in = clock.hour_in; minute_in = clock.minute_in; second_in = clock.second_in; is = sym test.1 ∙ ap (λ (z : ℤ). z *ℤ pos 86400 +ℤ pos c.0.0) date.number_is ∙ ap (λ n. days_from_civil (pos date.year) date.month date.day *ℤ pos 86400 +ℤ pos n) clock.number_is };
      is = date.is ∙ ap (λ (w : List ℕ). four_digits date.year ++ (two_digits date.month ++ (two_digits date.day ++ w))) (clock.is ∙ ap (λ (w : List ℕ). two_digits clock.hour ++ (two_digits clock.minute ++ (two_digits clock.second ++ w))) (zulu_is c.0.1 test.0));
    }

pub time_again : (octets : List ℕ) (seconds : ℤ) → SpellsMoment seconds octets → time_in octets ≡ Some seconds
unfolding time_in
time_again octets seconds s =
    let m = s.moment in
    let d = date_again s.year s.month s.day (two_digits s.hour ++ (two_digits s.minute ++ (two_digits s.second ++ 90 ∷ []))) m.date in
    let c = clock_again s.hour s.minute s.second (90 ∷ []) m.hour_in m.minute_in m.second_in in
    rw (s.is, d, c, ← m.is) refl

pub moment_found : {E : Type 0} (result : Result ℤ E) (octets : List ℕ) → Gives (λ seconds. seconds) result (time_in octets) → IfOk result (λ seconds. SpellsMoment seconds octets)
moment_found (Ok seconds) octets e = time_found octets seconds e
moment_found (Err e) octets h = tt

pub no_moment : {E : Type 0} (result : Result ℤ E) (octets : List ℕ) → Gives (λ seconds. seconds) result (time_in octets) → OnErr result ((seconds : ℤ) → SpellsMoment seconds octets → ⊥)
no_moment (Ok seconds) octets h = tt
no_moment (Err e) octets h = λ seconds s. none-some seconds (sym h ∙ time_again octets seconds s)
