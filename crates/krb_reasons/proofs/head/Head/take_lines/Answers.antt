use Rattle.std.proofs.Common.{◌≡◌, ◌+◌, ◌∙◌, drop, List, ℕ, None, ap, sym, subst, take}
use Rattle.krb_text.specs.Cutter.{first_end}
use Rattle.krb_reasons.specs.Kept.{Head, with_line}
use Rattle.krb_reasons.proofs.HeadLemmas.{IsTaken, taken_on, rest_is, taken_is}
use Rattle.krb_reasons.proofs.head.Head.take_lines.Goals as goal

pub returns-in_default-clause-rest : goal.returns-in_default-clause-rest
returns-in_default-clause-rest c =
    let none : first_end (drop c.lines.done c.args.text.now) ≡ None = ap first_end (sym c.behind-rest.ensures) ∙ sym c.first_end.ensures.end ∙ c.in_default.is in
    rest_is c.args.text.now c.lines.done c.args.self.now c.lines.self c.lines.invariant none

pub returns-in_default-clause-taken : goal.returns-in_default-clause-taken
returns-in_default-clause-taken c =
    let none : first_end (drop c.lines.done c.args.text.now) ≡ None = ap first_end (sym c.behind-rest.ensures) ∙ sym c.first_end.ensures.end ∙ c.in_default.is in
    taken_is c.args.text.now c.lines.done c.args.self.now c.lines.self c.lines.invariant none

pub lines-preserved : goal.lines-preserved
lines-preserved c =
    let text = c.args.text.now in
    let done = c.lines.done in
    let end = c.in-Some.end in
    let is = ap first_end (sym c.behind-rest.ensures) ∙ sym c.first_end.ensures.end ∙ c.in-Some.is in
    let next = c.in_ok-take_line.ensures ∙ ap (λ (rest : List ℕ). with_line c.lines.self (take end rest)) c.behind-rest.ensures in
    subst (λ (head : Head). IsTaken text (done + (end + 1)) c.args.self.now head) (sym next) (taken_on text done end c.args.self.now c.lines.self c.lines.invariant is)
