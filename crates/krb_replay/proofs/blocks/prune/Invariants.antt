use Rattle.std.proofs.Common.{◌≡◌, ◌+◌, length, vec_capacity}
use Rattle.std.specs.VecDeque.{deque_capacity}
use Rattle.std.specs.List.{filter}
use Rattle.krb_replay.specs.Clock.{is_current}
use Rattle.krb_replay.specs.Order.{Ascends}
use Rattle.krb_replay.specs.Blocks.{flat, Filled, AllNone}
use Rattle.krb_replay.proofs.blocks.prune.Given as goal

abbrev pub invariant-loop-blocks : goal.invariant-loop-blocks
invariant-loop-blocks l = record {
  ordered : Ascends (flat l.blocks.items);
  filled : Filled 1 l.blocks.items;
  none : AllNone l.spare.items;
  count : length l.blocks.items + length l.spare.items ≡ length l.fn.blocks.items + length l.fn.spare.items;
  len : l.kept ≡ length (flat l.blocks.items);
  rest : filter (is_current l.skew l.moment) (flat l.blocks.items) ≡ filter (is_current l.skew l.moment) (flat l.fn.blocks.items);
  blocks_room : deque_capacity l.blocks ≡ deque_capacity l.fn.blocks;
  spare_room : vec_capacity l.spare ≡ vec_capacity l.fn.spare;
}

abbrev pub decreases-loop-blocks : goal.decreases-loop-blocks
decreases-loop-blocks l = length (flat l.blocks.items)
