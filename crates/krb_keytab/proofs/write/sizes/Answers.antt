use Rattle.std.proofs.Common.{ap, arith}
use Rattle.std.specs.Prelude.{length, List, ℕ}
use Rattle.krb_keytab.proofs.Short.{sizes_more, short_at}
use Rattle.krb_keytab.proofs.write.sizes.Goals as goal

pub loop-part-preserved : goal.loop-part-preserved
loop-part-preserved c =
    let len = ap (λ (octets : List ℕ). length octets) c.as_slice.ensures.octets in
    let more = sizes_more c.args.parts.now c.loop-part.part-index c.part-item.result c.loop-part-test.true c.part-item.is in
    let short = short_at c.args.parts.now c.loop-part.part-index c.part-item.result c.requires.short c.loop-part-test.true c.part-item.is in
    record { value = omega (arith, len, more, c.loop-part.invariant.value); bound = omega (arith, len, short, c.loop-part.invariant.bound) }
