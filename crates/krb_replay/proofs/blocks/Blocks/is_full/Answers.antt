use Rattle.std.proofs.Common.{sym, ◌∙◌, arith}
use Rattle.krb_replay.specs.Blocks.{flat}
use Rattle.krb_replay.proofs.Cut.{below_room}
use Rattle.krb_replay.proofs.Window.{filter-fresh, length-stale, no_more_current, stale_fails, fresh_passes}
use Rattle.krb_replay.proofs.blocks.Blocks.is_full.Goals as goal

pub returns-then-self-room-clause-full : goal.returns-then-self-room-clause-full
returns-then-self-room-clause-full c =
    let bs = c.self.inside.blocks.items in
    rw (← c.self.view_is) (λ h. (
      omega (arith, c.if-self-room.true, c.room.ensures, c.self.invariant.len),
      filter-fresh c.args.skew c.args.moment (flat bs) c.self.invariant.ordered (sym c.is_front_stale.ensures ∙ stale_fails c.is_front_stale.result h),
    ))

pub returns-then-self-room-clause-room : goal.returns-then-self-room-clause-room
returns-then-self-room-clause-room c =
    let bs = c.self.inside.blocks.items in
    rw (← c.self.view_is) (λ h. omega (arith, length-stale c.args.skew c.args.moment (flat bs) (sym c.is_front_stale.ensures ∙ fresh_passes c.is_front_stale.result h)))

pub returns-else-self-room-clause-room : goal.returns-else-self-room-clause-room
returns-else-self-room-clause-room c =
    let bs = c.self.inside.blocks.items in
    rw (← c.self.view_is) (λ h.
    let fits = c.self.invariant.room in
    let lt = below_room c.self.inside.len c.room.result h (omega (arith, c.self.invariant.len, c.room.ensures, fits)) in
    omega (arith, no_more_current c.args.skew c.args.moment (flat bs), lt, c.self.invariant.len, c.room.ensures))
