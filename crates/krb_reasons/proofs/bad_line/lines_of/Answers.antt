use Rattle.std.proofs.Common.{◌≡◌, ℕ, List, length, true, false, sym, ap, ◌∙◌, arith}
use Rattle.std.specs.Prelude.{◌==◌, map}
use Rattle.std.specs.Borrow.{Bor}
use Rattle.std.proofs.lemmas.Bool.{eqb-true}
use Rattle.std.proofs.lemmas.List.{nil_from_length}
use Rattle.krb_reasons.proofs.BadLineLemmas.{no_part, ended, unended_too}
use Rattle.krb_reasons.proofs.bad_line.lines_of.Goals as goal

pub returns-in-None : goal.returns-in-None
returns-in-None c =
    let none : length c.in_ok-lines.lines.items ≡ 0 = omega (arith, c.in-None.ensures.cases.0) in
    absurd (no_part c.args.text.now c.in_ok-lines.lines.items (nil_from_length c.in_ok-lines.lines.items none) c.in_ok-lines.ensures)

pub returns-in-Some : goal.returns-in-Some
returns-in-Some c =
    ended c.args.text.now c.in_ok-lines.lines.items c.pop.new.self.items c.in-Some.last c.in_ok-lines.ensures c.in-Some.ensures.items
    (nil_from_length c.in-Some.last.now (eqb-true (length c.in-Some.last.now) 0 (sym (sym c.if-is_empty.true ∙ c.is_empty.ensures))))

pub returns-in_ok-push-in-Some-2 : goal.returns-in_ok-push-in-Some-2
returns-in_ok-push-in-Some-2 c =
    ap (λ (l : List (Bor (List ℕ))). map (λ (x : Bor (List ℕ)). x.now) l) c.in_ok-push-in-Some-2.ensures.items
    ∙ unended_too c.args.text.now c.in_ok-lines.lines.items c.pop.new.self.items c.in-Some.last c.in_ok-lines.ensures c.in-Some.ensures.items
    (λ e. let no : true ≡ false = ap (λ (l : List ℕ). length l == 0) (sym e) ∙ (sym c.is_empty.ensures ∙ c.if-is_empty.false) in absurd cc)
