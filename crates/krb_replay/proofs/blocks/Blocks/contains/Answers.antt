use Rattle.std.proofs.Common.{List, ap, sym, ◌∙◌, subst}
use Rattle.krb_replay.specs.declared.record.Record.{Record}
use Rattle.krb_replay.specs.Records.{has_record}
use Rattle.krb_replay.specs.Order.{Ascends}
use Rattle.krb_replay.proofs.Cut.{absent_below, all_below, Ascends-at, has_at}
use Rattle.krb_replay.specs.Blocks.{flat}
use Rattle.krb_replay.proofs.blocks.Blocks.contains.Goals as goal

pub returns-then-are_below : goal.returns-then-are_below
returns-then-are_below c =
    let bs = c.self.inside.blocks.items in
    rw (← c.self.view_is) (sym (absent_below c.args.entry.now (flat bs) (all_below c.args.entry.now bs c.self.invariant.ordered c.self.invariant.filled (sym c.are_below.ensures ∙ c.if-are_below.true))))

pub contains-requires : goal.contains-requires
contains-requires c =
    subst Ascends (sym c.index.ensures) (Ascends-at c.self.inside.blocks.items c.block_of.result c.index.result.now c.block_of.ensures.within c.self.invariant.ordered)

pub returns : goal.returns
returns c =
    rw (← c.self.view_is) (c.contains.ensures ∙ ap (λ (l : List Record). has_record l c.args.entry.now) c.index.ensures
    ∙ sym (has_at c.args.entry.now c.self.inside.blocks.items c.block_of.result c.index.result.now c.self.invariant.ordered c.block_of.ensures.within c.block_of.ensures.below (c.block_of.ensures.here c.index.result.now)))
