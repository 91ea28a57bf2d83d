use Rattle.std.proofs.Common.{List, sym, ◌∙◌, subst}
use Rattle.krb_replay.specs.declared.record.Record.{Record}
use Rattle.krb_replay.specs.Blocks.{flat, IsRecut}
use Rattle.krb_replay.proofs.Cut.{all_below, place_behind_all}
use Rattle.krb_replay.proofs.blocks.put.Goals as goal

pub returns-then-are_below-clause-recut : goal.returns-then-are_below-clause-recut
returns-then-are_below-clause-recut c =
    let bs = c.args.blocks.now.items in
    subst (λ (l : List Record). IsRecut bs c.args.spare.now.items c.push.new.blocks.items c.push.new.spare.items l)
    (place_behind_all c.args.entry (flat bs) (all_below c.args.entry bs c.requires.ordered c.requires.filled (sym c.are_below.ensures ∙ c.if-are_below.true)))
    c.push.ensures.recut
