use Rattle.std.proofs.Common.{◌≡◌, ℕ, ◌-◌, refl, ap, sym, ◌∙◌, subst, get_or, not, arith}
use Rattle.krb_replay.proofs.Cut.{room_is}
use Rattle.krb_replay.proofs.blocks.has_room.Goals as goal

pub returns-in-Some : goal.returns-in-Some
returns-in-Some c =
    let blocks = c.args.blocks.now in
    let last = c.in-Some.last.now in
    ap not c.is_full.ensures
    ∙ sym (room_is blocks.items last (omega (arith, blocks.ok.0, c.in-Some.ensures.variant.0 refl)) (subst (λ (n : ℕ). last ≡ get_or blocks.items (n - 1) last) blocks.ok.0 c.in-Some.ensures.lookup))
