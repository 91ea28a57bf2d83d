use Rattle.std.proofs.Common.{length}
use Rattle.krb_keytab.proofs.Files.{SoFar}
use Rattle.krb_keytab.proofs.read.read_items.Given as goal

abbrev pub decreases-loop-entries : goal.decreases-loop-entries
decreases-loop-entries l = length l.rest

abbrev pub invariant-loop-entries : goal.invariant-loop-entries
invariant-loop-entries l = SoFar l.body l.rest l.entries.items
