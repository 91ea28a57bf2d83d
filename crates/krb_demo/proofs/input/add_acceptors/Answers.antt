use Rattle.std.proofs.Common.{◌≤◌, List, ℕ, ◌++◌, ◌∙◌, ap, arith}
use Rattle.krb_demo.specs.Input.{acceptor_lines}
use Rattle.krb_demo.proofs.Lines.{lines_up_to}
use Rattle.krb_demo.proofs.input.add_acceptors.Goals as goal

pub loop-k-preserved : goal.loop-k-preserved
loop-k-preserved c =
    let some : 1 ≤ c.loop-k.k = omega arith in
    c.in_ok-add_acceptor.ensures ∙ ap (λ (xs : List ℕ). xs ++ acceptor_lines c.loop-k.k) c.loop-k.invariant ∙ lines_up_to acceptor_lines c.args.input.now.items c.loop-k.k some
