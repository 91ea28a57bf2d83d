use Rattle.std.proofs.Common.{◌≡◌, ◌-◌, ◌≤◌, ◌<◌, false, length, take, get_or, List}
use Rattle.krb_replay.specs.declared.record.Record.{Record}
use Rattle.krb_replay.specs.Blocks.{flat, ends_below, AllBelow}
use Rattle.krb_replay.proofs.blocks.block_of.Given as goal

abbrev pub invariant-loop-low : goal.invariant-loop-low
invariant-loop-low l = record {
  ordered : l.low ≤ l.high;
  within : l.high < length l.blocks.items;
  below : AllBelow l.entry (flat (take l.low l.blocks.items));
  here : (d : List Record) → ends_below l.entry (get_or l.blocks.items l.high d) ≡ false;
}

abbrev pub decreases-loop-low : goal.decreases-loop-low
decreases-loop-low l = l.high - l.low
