use Rattle.std.proofs.Common.{◌≡◌, take}
use Rattle.std.specs.Prelude.{map}
use Rattle.krb_keytab.specs.Installing.{names_of}
use Rattle.krb_keytab.proofs.install.names_of.Given as goal

abbrev pub invariant-loop-entry : goal.invariant-loop-entry
invariant-loop-entry l = map (λ name. name.now) l.names.keys ≡ names_of l.realm (take l.entry-index l.entries)
