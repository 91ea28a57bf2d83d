use Rattle.std.proofs.Common.{◌≡◌, take}
use Rattle.std.specs.Prelude.{map}
use Rattle.krb_keyring.specs.Judging.{single}
use Rattle.krb_keyring.proofs.judging.singles.Given as goal

abbrev pub invariant-loop-entry : goal.invariant-loop-entry
invariant-loop-entry l = l.keys.items ≡ map (single l.token_limit) (map (λ entry. entry.now) (take l.entry-index l.entries))
