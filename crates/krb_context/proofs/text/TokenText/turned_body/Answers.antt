use Rattle.std.proofs.Common.{rules, ◌≡◌, ◌++◌, List, length, take, drop, ap, sym, subst, ◌∙◌, arith}
use Rattle.std.specs.Prelude.{ℕ}
use Rattle.krb_context.proofs.TextLemmas.{turned}
use Rattle.krb_context.proofs.text.TokenText.turned_body.Goals as goal

pub returns-clause-body : goal.returns-clause-body
returns-clause-body c =
    let text : List ℕ = c.self.inside.token.now ++ c.self.inside.rest.now in
    let is : text ≡ c.args.self.now = c.self.view_is in
    let P : List ℕ → Type 0 = λ s. c.append_range-2.new.out.items ≡ drop c.args.turn (drop 16 s) ++ take c.args.turn (drop 16 s) in
    subst P is
    (turned text c.append_range.new.out.items c.append_range-2.new.out.items c.args.turn c.len-2.result
    (omega (arith, ap length is)) (c.len-2.ensures ∙ ap length (sym is)) (c.in_ok-append_range.ensures ∙ search rules) c.in_ok-append_range-2.ensures)
