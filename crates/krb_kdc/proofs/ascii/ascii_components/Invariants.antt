use Rattle.std.proofs.Common.{◌≡◌, true, take}
use Rattle.krb_kdc.specs.Fitting.{are_ascii}
use Rattle.krb_kdc.proofs.ascii.ascii_components.Given as goal

abbrev pub invariant-loop-component : goal.invariant-loop-component
invariant-loop-component l = are_ascii (take l.component-index l.components) ≡ true
