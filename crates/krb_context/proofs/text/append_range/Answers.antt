use Rattle.std.proofs.Common.{◌-◌, ℕ, List, ◌++◌, length, take, drop, ap, ◌∙◌, arith}
use Rattle.std.proofs.lemmas.List.{append_assoc, take_rest}
use Rattle.krb_context.proofs.TextLemmas.{over_seam}
use Rattle.krb_context.proofs.text.append_range.Goals as goal

pub returns-in_ok-extend_from_slice-4 : goal.returns-in_ok-extend_from_slice-4
returns-in_ok-extend_from_slice-4 c =
    let seam = over_seam c.args.first.now c.args.second.now c.args.from c.args.to (omega arith) (omega arith) in
    c.in_ok-extend_from_slice-4.ensures.items ∙ ap (λ (l : List ℕ). l ++ take (c.args.to - length c.args.first.now) c.args.second.now)
    (c.in_ok-extend_from_slice-3.ensures.items ∙ ap (λ (l : List ℕ). c.args.out.now.items ++ l) (take_rest c.args.first.now c.args.from))
    ∙ append_assoc c.args.out.now.items (drop c.args.from c.args.first.now) (take (c.args.to - length c.args.first.now) c.args.second.now)
    ∙ ap (λ (l : List ℕ). c.args.out.now.items ++ l) seam
