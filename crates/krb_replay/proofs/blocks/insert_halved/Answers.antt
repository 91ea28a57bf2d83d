use Rattle.std.proofs.Common.{◌++◌, List, length, ap, sym, ◌∙◌, arith}
use Rattle.krb_replay.specs.declared.record.Record.{Record}
use Rattle.krb_replay.proofs.Order.{length-place}
use Rattle.krb_replay.proofs.Cut.{Ascends-lower, Ascends-upper, in_lower, in_upper}
use Rattle.krb_replay.proofs.blocks.insert_halved.Goals as goal

pub insert-requires-clause-ordered : goal.insert-requires-clause-ordered
insert-requires-clause-ordered c = Ascends-upper c.split.new.self c.split.new.upper c.args.block.now c.split.ensures.all c.requires.ordered

pub insert-requires-else-ends_below-clause-ordered : goal.insert-requires-else-ends_below-clause-ordered
insert-requires-else-ends_below-clause-ordered c = Ascends-lower c.split.new.self c.split.new.upper c.args.block.now c.split.ensures.all c.requires.ordered

pub returns-then-ends_below-clause-all : goal.returns-then-ends_below-clause-all
returns-then-ends_below-clause-all c =
    ap (λ (l : List Record). c.split.new.self ++ l) c.insert.ensures
    ∙ in_upper c.args.entry c.split.new.self c.split.new.upper c.args.block.now c.split.ensures.all c.requires.ordered (sym c.ends_below.ensures ∙ c.if-ends_below.true)

pub returns-then-ends_below-clause-upper : goal.returns-then-ends_below-clause-upper
returns-then-ends_below-clause-upper c = omega (arith, ap length c.insert.ensures, length-place c.split.new.upper c.args.entry, c.split.ensures.upper)

pub returns-else-ends_below-clause-all : goal.returns-else-ends_below-clause-all
returns-else-ends_below-clause-all c =
    ap (λ (l : List Record). l ++ c.split.new.upper) c.insert-else-ends_below.ensures
    ∙ in_lower c.args.entry c.split.new.self c.split.new.upper c.args.block.now c.split.ensures.all (sym c.ends_below.ensures ∙ c.if-ends_below.false)

pub returns-else-ends_below-clause-lower : goal.returns-else-ends_below-clause-lower
returns-else-ends_below-clause-lower c = omega (arith, ap length c.insert-else-ends_below.ensures, length-place c.split.new.self c.args.entry, c.split.ensures.lower)
