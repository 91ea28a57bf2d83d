use Rattle.std.proofs.Common.{sym, ◌∙◌}
use Rattle.krb_replay.specs.Blocks.{flat}
use Rattle.krb_replay.proofs.Window.{filter-fresh}
use Rattle.krb_replay.proofs.blocks.prune.Goals as goal

pub returns-clause-recut : goal.returns-clause-recut
returns-clause-recut c =
    let kept = c.loop-blocks.invariant in
    record {
      items = sym (filter-fresh c.args.skew c.args.moment (flat c.loop-blocks.blocks.items) kept.ordered (sym c.is_front_stale.ensures ∙ c.loop-blocks-test.false)) ∙ kept.rest;
      filled = kept.filled;
      none = kept.none;
      count = kept.count;
    }
