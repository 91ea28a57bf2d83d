use Rattle.std.proofs.Common.{arith, ◌≤ℤ◌, pos}
use Rattle.std.proofs.lemmas.Int.{ints}
use Rattle.krb_der.proofs.Moments.{day_from_zero}
use Rattle.krb_der.proofs.time.day_number.Goals as goal

pub returns-in-Ok-clause-from : goal.returns-in-Ok-clause-from
returns-in-Ok-clause-from c =
    let d = c.in-Ok.date in
    let year : pos 0 ≤ℤ d.year = omega (arith, ints, c.in-Ok.ensures.value.0) in
    omega (arith, ints, day_from_zero d.year d.month d.day (d.year_in, d.month_in, d.day_in) year, c.to_unix_epoch_day.ensures.value)
