use Rattle.std.proofs.Common.{◌≡◌, take}
use Rattle.krb_keytab.specs.Format.{written}
use Rattle.krb_keytab.proofs.write.write_entries.Given as goal

abbrev pub invariant-loop-entry : goal.invariant-loop-entry
invariant-loop-entry l = l.out.items ≡ written (take l.entry-index l.entries)
