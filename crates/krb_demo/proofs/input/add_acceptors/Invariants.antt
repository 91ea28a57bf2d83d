use Rattle.std.proofs.Common.{◌≡◌, ◌-◌, ◌++◌}
use Rattle.std.specs.List.{flat_map, range_with_len}
use Rattle.krb_demo.specs.Input.{acceptor_lines}
use Rattle.krb_demo.proofs.input.add_acceptors.Given as goal

abbrev pub invariant-loop-k : goal.invariant-loop-k
invariant-loop-k l = l.input.items ≡ l.initial.input.items ++ flat_map acceptor_lines (range_with_len 1 (l.k - 1))
