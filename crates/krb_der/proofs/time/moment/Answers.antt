use Rattle.std.proofs.Common.{arith, ◌≤ℤ◌, ◌<ℤ◌, pos, negsuc}
use Rattle.std.proofs.lemmas.Int.{ints}
use Rattle.jiff_core.proofs.SignedLemmas.{signed_arith}
use Rattle.krb_der.proofs.time.moment.Goals as goal

pub invariant_of-result : goal.invariant_of-result
invariant_of-result c =
    let low : negsuc 719_527 ≤ℤ c.from.result = omega (arith, ints, c.in_ok-days.ensures.from, c.from.ensures) in
    let high : c.from.result ≤ℤ pos 2_932_896 = omega (arith, ints, c.in_ok-days.ensures.to, c.from.ensures) in
    let below : c.from-in-90.result <ℤ pos 86400 = omega (arith, ints, c.in_ok-seconds.ensures.below, c.from-in-90.ensures) in
    let from : pos 0 ≤ℤ c.from-in-90.result = omega (arith, ints, c.from-in-90.ensures) in
    (omega (arith, signed_arith), omega (arith, signed_arith))
