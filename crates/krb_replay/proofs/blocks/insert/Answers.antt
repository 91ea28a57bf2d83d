use Rattle.std.proofs.Common.{◌≡◌, ◌+◌, List, refl, set, ap, sym, ◌∙◌, subst, rules}
use Rattle.std.specs.List.{insert}
use Rattle.krb_replay.specs.declared.record.Record.{Record}
use Rattle.krb_replay.specs.Records.{has_record}
use Rattle.krb_replay.specs.Order.{Ascends, place}
use Rattle.krb_replay.proofs.Cut.{Ascends-at, has_at, inserted, inserted_halved, last_none}
use Rattle.krb_replay.proofs.blocks.insert.Goals as goal

pub insert-requires-clause-ordered : goal.insert-requires-clause-ordered
insert-requires-clause-ordered c =
    subst Ascends (sym c.index_mut.ensures.value) (Ascends-at c.args.blocks.now.items c.args.index c.index_mut.result.now c.requires.place.within c.requires.ordered)

pub insert-requires-clause-absent : goal.insert-requires-clause-absent
insert-requires-clause-absent c =
    let at = c.requires.place in
    ap (λ (l : List Record). has_record l c.args.entry) c.index_mut.ensures.value
    ∙ sym (has_at c.args.entry c.args.blocks.now.items c.args.index c.index_mut.result.now c.requires.ordered at.within at.below (at.here c.index_mut.result.now))
    ∙ c.requires.absent

pub insert_halved-requires-clause-ordered : goal.insert_halved-requires-clause-ordered
insert_halved-requires-clause-ordered c =
    subst Ascends (sym c.index_mut-in-Some.ensures.value) (Ascends-at c.args.blocks.now.items c.args.index c.index_mut-in-Some.result.now c.requires.place.within c.requires.ordered)

pub insert_halved-requires-clause-absent : goal.insert_halved-requires-clause-absent
insert_halved-requires-clause-absent c =
    let at = c.requires.place in
    ap (λ (l : List Record). has_record l c.args.entry) c.index_mut-in-Some.ensures.value
    ∙ sym (has_at c.args.entry c.args.blocks.now.items c.args.index c.index_mut-in-Some.result.now c.requires.ordered at.within at.below (at.here c.index_mut-in-Some.result.now))
    ∙ c.requires.absent

pub insert_halved-requires-clause-none : goal.insert_halved-requires-clause-none
insert_halved-requires-clause-none c = (last_none c.args.spare.now.items c.pop.new.self.items c.in-Some.upper c.in-Some.ensures.items c.requires.none).1

pub returns-then-not-is_full-clause-recut : goal.returns-then-not-is_full-clause-recut
returns-then-not-is_full-clause-recut c =
    inserted c.args.blocks.now.items c.args.spare.now.items _ c.args.index c.index_mut.result.now c.insert.new.self c.args.entry c.requires.filled c.requires.none c.requires.place
    (c.insert.ensures ∙ ap (λ (l : List Record). place l c.args.entry) c.index_mut.ensures.value)
    refl

pub returns-in-Some-clause-recut : goal.returns-in-Some-clause-recut
returns-in-Some-clause-recut c =
    let w = c.insert_halved.new.block in
    let v = c.insert_halved.new.upper in
    let new_is : c.insert-in-Some.new.self.items ≡ insert (set c.args.blocks.now.items c.args.index w) (c.args.index + 1) v = search rules in
    inserted_halved c.args.blocks.now.items c.args.spare.now.items c.insert-in-Some.new.self.items c.pop.new.self.items c.args.index (c.args.index + 1) c.index_mut-in-Some.result.now c.in-Some.upper w v c.args.entry
    c.requires.filled c.requires.none c.requires.place c.in-Some.ensures.items
    (c.insert_halved.ensures.all ∙ ap (λ (l : List Record). place l c.args.entry) c.index_mut-in-Some.ensures.value)
    c.insert_halved.ensures.lower c.insert_halved.ensures.upper refl new_is
