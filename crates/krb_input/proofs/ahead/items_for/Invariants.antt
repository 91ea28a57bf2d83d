use Rattle.std.proofs.Common.{◌≤◌, ◌++◌, List, Option, length}
use Rattle.krb_text.specs.Lines.{cut}
use Rattle.krb_script.specs.declared.item.Item.{Item}
use Rattle.krb_input.specs.Ahead.{AreOf}
use Rattle.krb_input.proofs.ahead.items_for.Given as goal

abbrev pub invariant-lines : goal.invariant-lines
invariant-lines l =
    ((more : List (Option Item)) → AreOf more (cut l.rest).whole → AreOf (l.items.items ++ more) (cut l.octets).whole)
    × (length l.rest ≤ length l.octets)

abbrev pub decreases-lines : goal.decreases-lines
decreases-lines l = length l.rest
