use Rattle.std.proofs.Common.{◌≡◌, ◌≤◌, ◌++◌}
use Rattle.std.specs.VecDeque.{deque_len, deque_capacity}
use Rattle.krb_replay.proofs.block.move_upper.Given as goal

abbrev pub invariant-loop-records : goal.invariant-loop-records
invariant-loop-records l = record {
  all : l.records.items ++ l.upper.items ≡ l.fn.records.items;
  lower : 256 ≤ deque_len l.records;
  capacity : deque_capacity l.records ≡ deque_capacity l.fn.records;
  upper_capacity : deque_capacity l.upper ≡ deque_capacity l.fn.upper;
}

abbrev pub decreases-loop-records : goal.decreases-loop-records
decreases-loop-records l = deque_len l.records
