use Rattle.std.proofs.Common.{◌≡◌, ◌-◌, ◌≤◌, length, vec_capacity}
use Rattle.krb_replay.specs.Blocks.{AllNone}
use Rattle.krb_replay.proofs.blocks.fill_spare.Given as goal

abbrev pub invariant-loop-alloc : goal.invariant-loop-alloc
invariant-loop-alloc l = record {
  none : AllNone l.spare.items;
  more : length l.fn.spare.items ≤ length l.spare.items;
  no_more : length l.spare.items ≤ l.wanted;
  capacity : vec_capacity l.spare ≡ vec_capacity l.fn.spare;
}

abbrev pub decreases-loop-alloc : goal.decreases-loop-alloc
decreases-loop-alloc l = l.wanted - length l.spare.items
