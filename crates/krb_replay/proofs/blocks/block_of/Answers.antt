use Rattle.std.proofs.Common.{◌≡◌, ℕ, suc, ◌+◌, ◌-◌, ◌/◌, false, take, get_or, sym, ap, ◌∙◌, subst, arith}
use Rattle.krb_replay.specs.Blocks.{flat, ends_below, AllBelow}
use Rattle.krb_replay.proofs.Cut.{below_block, last_is, some_block}
use Rattle.krb_replay.proofs.blocks.block_of.Goals as goal

plus_one : (k : ℕ) → suc k ≡ k + 1
plus_one k = omega arith

pub loop-low-init : goal.loop-low-init
loop-low-init c =
    let bs = c.args.blocks.now.items in
    let e = c.args.entry.now in
    let some = some_block e bs c.requires.within in
    record {
      ordered = omega arith;
      within = omega (arith, some, c.len-high.ensures, c.args.blocks.now.ok.0);
      below = tt;
      here = λ d. subst (λ (n : ℕ). ends_below e (get_or bs (n - 1) d) ≡ false) (sym (c.len-high.ensures ∙ c.args.blocks.now.ok.0)) (sym (last_is e bs d some) ∙ c.requires.within);
    }

pub loop-low-preserved-then-ends_below : goal.loop-low-preserved-then-ends_below
loop-low-preserved-then-ends_below c =
    let bs = c.args.blocks.now.items in
    let e = c.args.entry.now in
    let middle = c.loop-low.low + (c.loop-low.high - c.loop-low.low) / 2 in
    record {
      ordered = omega (arith, c.loop-low-test.true);
      within = c.loop-low.invariant.within;
      below = subst (λ (n : ℕ). AllBelow e (flat (take n bs))) (plus_one middle)
          (below_block e bs middle c.index.result.now c.requires.ordered c.requires.filled (omega (arith, c.loop-low-test.true, c.loop-low.invariant.within))
          (ap (ends_below e) (sym c.index.ensures) ∙ sym c.ends_below.ensures ∙ c.if-ends_below.true));
      here = c.loop-low.invariant.here;
    }
