use Rattle.std.proofs.Common.{◌≡◌, ◌∷◌, map, take}
use Rattle.std.specs.Prelude.{string_bytes}
use Rattle.krb_conf.specs.Key.{joined}
use Rattle.krb_conf.proofs.key.join.Given as goal

abbrev pub invariant-loop-name : goal.invariant-loop-name
invariant-loop-name l =
    string_bytes l.key ≡ joined (string_bytes l.initial.key ∷ map (λ name. name.now) (take l.name-index l.names))
