use Rattle.std.proofs.Common.{◌≡◌, ◌++◌, true, take}
use Rattle.krb_kdc.specs.Fitting.{are_ascii}
use Rattle.krb_realm.specs.Realms.{end_to_end}
use Rattle.krb_realm.proofs.salt.push_components.Given as goal

abbrev pub invariant-loop-component : goal.invariant-loop-component
invariant-loop-component l =
    (l.text.items ≡ l.fn.text.items ++ end_to_end (take l.component-index l.components))
    × (are_ascii (take l.component-index l.components) ≡ true)
