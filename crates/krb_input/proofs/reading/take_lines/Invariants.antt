use Rattle.std.proofs.Common.{◌≤◌, ◌+◌, ◌-◌, length, take, drop}
use Rattle.std.specs.Vec.Iter.{into_iter_items}
use Rattle.krb_text.specs.Limits.{max_input}
use Rattle.krb_text.specs.Lines.{cut}
use Rattle.krb_input.specs.Ahead.{AreOf}
use Rattle.krb_input.specs.Taking.{Takes}
use Rattle.krb_input.proofs.reading.take_lines.Given as goal

abbrev pub invariant-lines : goal.invariant-lines
invariant-lines g l =
    Takes l.at l.initial.known (take l.done l.octets) l.known
    × AreOf (into_iter_items l.even) (cut (drop l.done l.octets)).whole
    × AreOf (into_iter_items l.odd) (cut (drop l.done l.octets)).whole
    × (l.done ≤ length l.octets)
    × (l.at + l.done ≤ max_input)

abbrev pub decreases-lines : goal.decreases-lines
decreases-lines g l = length l.octets - l.done
