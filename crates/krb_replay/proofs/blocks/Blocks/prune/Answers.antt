use Rattle.std.proofs.Common.{length, ap, ◌∙◌, arith}
use Rattle.std.specs.List.{filter}
use Rattle.krb_replay.specs.Clock.{is_current}
use Rattle.krb_replay.specs.Blocks.{flat}
use Rattle.krb_replay.proofs.Cut.{Ascends-filter, held_after, same_total}
use Rattle.krb_replay.proofs.Window.{no_more_current}
use Rattle.krb_replay.proofs.blocks.Blocks.prune.Goals as goal

pub invariant_of-self : goal.invariant_of-self
invariant_of-self c =
    let bs = c.self.inside.blocks.items in
    let p = c.prune-self-inside in
    held_after bs c.self.inside.spare.items _ _ (filter (is_current c.args.skew c.args.moment) (flat bs)) c.self.inside.len _ _ _ _ _ c.self.invariant p.ensures.recut
    (Ascends-filter (is_current c.args.skew c.args.moment) (flat bs) c.self.invariant.ordered)
    (p.ensures.len ∙ ap length p.ensures.recut.items)
    (omega (arith, no_more_current c.args.skew c.args.moment (flat bs), c.self.invariant.room))
    (omega (arith, p.ensures.blocks_room))
    (omega (arith, p.ensures.spare_room))

pub returns-clause-room : goal.returns-clause-room
returns-clause-room c =
    let bs = c.self.inside.blocks.items in
    let p = c.prune-self-inside in
    rw (← c.self.view_is) (same_total bs c.self.inside.spare.items p.new.blocks.items p.new.spare.items c.self.invariant.room (invariant_of-self c).room p.ensures.recut.count)
