use Rattle.std.proofs.Common.{ℕ, sym, ◌∙◌, subst}
use Rattle.std.specs.List.Sorted.{IsSearchInRange}
use Rattle.krb_replay.specs.Order.{Ascends}
use Rattle.krb_replay.proofs.Order.{found}
use Rattle.krb_replay.proofs.Cut.{found_is}
use Rattle.krb_replay.proofs.block.Block.contains.Goals as goal

pub returns : goal.returns
returns c =
    let records = c.self.inside.records in
    let ordered : Ascends records.items = subst Ascends (sym c.self.view_is) c.requires in
    rw (← c.self.view_is) (c.is_ok.ensures.value
    ∙ found_is records.items c.args.entry.now c.binary_search.result
    (found records.items c.args.entry.now c.binary_search.result ordered (subst (λ (n : ℕ). IsSearchInRange c.binary_search.result n) records.ok.0 c.binary_search.ensures.bound) c.binary_search.ensures.position))
