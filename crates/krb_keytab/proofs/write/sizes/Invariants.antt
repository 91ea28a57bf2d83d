use Rattle.std.proofs.Common.{◌≡◌, ◌≤◌, ◌*◌, take}
use Rattle.krb_keytab.specs.Format.{sizes}
use Rattle.krb_keytab.proofs.write.sizes.Given as goal

abbrev pub invariant-loop-part : goal.invariant-loop-part
invariant-loop-part l = record { value : l.size ≡ sizes (take l.part-index l.parts); bound : l.size ≤ 65537 * l.part-index }
