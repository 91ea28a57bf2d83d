use Rattle.std.proofs.Common.{take}
use Rattle.krb_keytab.specs.RealmKeys.{HasGreatest}
use Rattle.krb_keytab.proofs.realm_keys.greatest_entries.Given as goal

abbrev pub invariant-loop-entry : goal.invariant-loop-entry
invariant-loop-entry l = HasGreatest l.realm l.suite (take l.entry-index l.entries) l.found
