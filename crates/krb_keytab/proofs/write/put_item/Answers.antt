use Rattle.std.proofs.Common.{ap, arith}
use Rattle.std.specs.Prelude.{length, List, ℕ}
use Rattle.krb_keytab.proofs.Files.{written_short}
use Rattle.krb_keytab.proofs.write.put_item.Goals as goal

pub overflow_cast-as_slice : goal.overflow_cast-as_slice
overflow_cast-as_slice c =
    let short = written_short c.args.entry.now c.requires in
    let octets = ap (λ (o : List ℕ). length o) c.in_ok-octets.ensures in
    let slice = ap (λ (o : List ℕ). length o) c.as_slice.ensures in
    omega (arith, short, octets, slice)
