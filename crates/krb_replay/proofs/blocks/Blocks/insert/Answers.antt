use Rattle.std.proofs.Common.{◌<◌, sym, subst, arith}
use Rattle.krb_replay.specs.Order.{place}
use Rattle.krb_replay.specs.Blocks.{Kept, flat}
use Rattle.krb_replay.proofs.Order.{Ascends-place, length-place}
use Rattle.krb_replay.proofs.Cut.{held_after, same_total, some_spare}
use Rattle.krb_replay.proofs.blocks.Blocks.insert.Goals as goal

pub put-requires-clause-more : goal.put-requires-clause-more
put-requires-clause-more c =
    some_spare c.self.inside.blocks.items c.self.inside.spare.items c.self.invariant.filled (subst (λ (k : Kept). 0 < k.spare) (sym c.self.view_is) c.requires.room)

pub invariant_of-self : goal.invariant_of-self
invariant_of-self c =
    let bs = c.self.inside.blocks.items in
    let room = subst (λ (k : Kept). 0 < k.spare) (sym c.self.view_is) c.requires.room in
    held_after bs c.self.inside.spare.items _ _ (place (flat bs) c.args.entry) c.self.inside.len _ _ _ _ _ c.self.invariant c.put.ensures.recut
    (Ascends-place (flat bs) c.args.entry c.self.invariant.ordered)
    (omega (arith, length-place (flat bs) c.args.entry, c.self.invariant.len))
    (omega (arith, length-place (flat bs) c.args.entry, room))
    c.put.ensures.blocks_room
    (omega (arith, c.put.ensures.spare_room))

pub returns-clause-room : goal.returns-clause-room
returns-clause-room c =
    let bs = c.self.inside.blocks.items in
    rw (← c.self.view_is) (same_total bs c.self.inside.spare.items c.put.new.blocks.items c.put.new.spare.items c.self.invariant.room (invariant_of-self c).room c.put.ensures.recut.count)
