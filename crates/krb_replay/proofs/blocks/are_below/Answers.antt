use Rattle.std.proofs.Common.{◌≡◌, ℕ, ◌-◌, refl, sym, ◌∙◌, subst, get_or, arith}
use Rattle.krb_replay.proofs.Cut.{below_is}
use Rattle.krb_replay.proofs.blocks.are_below.Goals as goal

pub returns-in-Some : goal.returns-in-Some
returns-in-Some c =
    let blocks = c.args.blocks.now in
    let last = c.in-Some.last.now in
    c.ends_below.ensures
    ∙ sym (below_is c.args.entry.now blocks.items last (omega (arith, blocks.ok.0, c.in-Some.ensures.variant.0 refl)) (subst (λ (n : ℕ). last ≡ get_or blocks.items (n - 1) last) blocks.ok.0 c.in-Some.ensures.lookup))
