use Rattle.std.proofs.Common.{◌≤◌, List, ℕ, ◌++◌, ◌∙◌, ap, arith}
use Rattle.krb_demo.specs.Input.{event_line}
use Rattle.krb_demo.proofs.Lines.{lines_up_to}
use Rattle.krb_demo.proofs.input.add_events.Goals as goal

pub loop-k-preserved : goal.loop-k-preserved
loop-k-preserved c =
    let some : 1 ≤ c.loop-k.k = omega arith in
    c.in_ok-add_event.ensures ∙ ap (λ (xs : List ℕ). xs ++ event_line c.loop-k.k) c.loop-k.invariant ∙ lines_up_to event_line c.args.input.now.items c.loop-k.k some
