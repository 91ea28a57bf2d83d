use Rattle.std.proofs.Common.{◌≡◌, arith, pos, ◌+ℤ◌}
use Rattle.std.proofs.lemmas.Int.{ints}
use Rattle.std.proofs.lemmas.Result.{IfOk-at_ok}
use Rattle.jiff_core.specs.declared.civil.date.Date.{Date}
use Rattle.jiff_core.specs.Date.{epoch_day}
use Rattle.krb_der.proofs.Moments.{day_is}
use Rattle.krb_der.proofs.time.date_after.Goals as goal

number : (c : goal.After-unwrap) → epoch_day c.unwrap.result +ℤ pos 719_528 ≡ pos c.args.days
number c =
    let e = IfOk-at_ok (λ (d : Date). epoch_day d ≡ _) c.unwrap.ensures c.from_unix_epoch_day.ensures.value in
    omega (arith, ints, e, c.from.ensures, c.requires)

pub returns-clause-year : goal.returns-clause-year
returns-clause-year c = (day_is c.unwrap.result c.args.days c.requires (number c)).0

pub returns-clause-month : goal.returns-clause-month
returns-clause-month c = (day_is c.unwrap.result c.args.days c.requires (number c)).1

pub returns-clause-day : goal.returns-clause-day
returns-clause-day c = (day_is c.unwrap.result c.args.days c.requires (number c)).2
