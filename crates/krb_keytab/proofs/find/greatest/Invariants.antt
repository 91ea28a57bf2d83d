use Rattle.std.proofs.Common.{◌≡◌, take}
use Rattle.std.specs.Prelude.{option_copied}
use Rattle.krb_keytab.specs.Finding.{is_wanted, greatest}
use Rattle.krb_keytab.specs.Views.{wanted_view}
use Rattle.krb_keytab.proofs.find.greatest.Given as goal

abbrev pub invariant-loop-entry : goal.invariant-loop-entry
invariant-loop-entry l = option_copied l.best ≡ greatest (is_wanted (wanted_view l.wanted)) (take l.entry-index l.entries)
