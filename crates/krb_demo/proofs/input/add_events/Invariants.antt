use Rattle.std.proofs.Common.{◌≡◌, ◌-◌, ◌++◌}
use Rattle.std.specs.List.{flat_map, range_with_len}
use Rattle.krb_demo.specs.Input.{event_line}
use Rattle.krb_demo.proofs.input.add_events.Given as goal

abbrev pub invariant-loop-k : goal.invariant-loop-k
invariant-loop-k l = l.input.items ≡ l.initial.input.items ++ flat_map event_line (range_with_len 1 (l.k - 1))
