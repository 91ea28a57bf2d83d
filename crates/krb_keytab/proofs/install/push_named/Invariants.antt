use Rattle.std.proofs.Common.{◌≡◌, ◌++◌, take}
use Rattle.std.specs.List.{flat_map}
use Rattle.std.specs.Option.{option_to_list}
use Rattle.krb_keytab.specs.RealmKeys.{pair_at}
use Rattle.krb_keytab.proofs.install.push_named.Given as goal

abbrev pub invariant-loop-name : goal.invariant-loop-name
invariant-loop-name l = l.out.items ≡ l.fn.out.items ++ flat_map (λ name. option_to_list (pair_at l.keys name)) (take l.name-index l.names)
