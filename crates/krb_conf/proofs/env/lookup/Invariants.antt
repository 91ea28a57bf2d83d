use Rattle.std.proofs.Common.{◌≡◌, drop}
use Rattle.std.specs.Prelude.{bytes_eq}
use Rattle.std.specs.List.{find}
use Rattle.krb_conf.proofs.env.lookup.Given as goal

abbrev pub invariant-loop-key : goal.invariant-loop-key
invariant-loop-key g l =
    find (λ pair. bytes_eq pair.0 l.name) l.key-items ≡ find (λ pair. bytes_eq pair.0 l.name) (drop l.key-index l.key-items)
