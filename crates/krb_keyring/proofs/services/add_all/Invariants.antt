use Rattle.std.proofs.Common.{◌≡◌, ℕ, List, ◌++◌, take}
use Rattle.krb_keyring.specs.Held.{held_in, named}
use Rattle.krb_keyring.proofs.services.add_all.Given as goal

abbrev pub invariant-loop-count : goal.invariant-loop-count
invariant-loop-count l = (name : List (List ℕ)) → held_in l.services name ≡ held_in l.fn.services name ++ named name (take l.count l.entries)
