use Rattle.std.proofs.Common.{◌≡◌, ℕ, ◌-◌, List, ◌++◌, length, take}
use Rattle.krb_keyring.specs.Held.{held_in, named}
use Rattle.krb_keytab.specs.declared.entry.KeytabEntry.{KeytabEntry}
use Rattle.krb_keyring.proofs.services.take_all_back.Given as goal

abbrev pub invariant-loop-taken : goal.invariant-loop-taken
invariant-loop-taken l =
    (before : List (List ℕ) → List KeytabEntry) → ((name : List (List ℕ)) → held_in l.fn.services name ≡ before name ++ named name l.entries)
    → (name : List (List ℕ)) → held_in l.services name ≡ before name ++ named name (take (length l.entries - l.taken) l.entries)
