use Rattle.std.proofs.Common.{◌≡◌, take}
use Rattle.std.specs.Prelude.{map}
use Rattle.krb_keyring.specs.Choice.{is_chosen, newest_first}
use Rattle.krb_keyring.proofs.choice.chosen_of.Given as goal

abbrev pub invariant-loop-entry : goal.invariant-loop-entry
invariant-loop-entry l = map (λ entry. entry.now) l.chosen.items ≡ newest_first (is_chosen l.ticket l.exactly) (take l.entry-index l.entries)
