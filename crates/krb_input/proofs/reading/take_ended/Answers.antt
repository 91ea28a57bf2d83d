use Rattle.std.proofs.Common.{◌≡◌, true, drop, ap, sym, ◌∙◌, subst}
use Rattle.krb_text.specs.Cutter.{first_end, is_unbroken}
use Rattle.krb_text.specs.Pieces.{Pieces}
use Rattle.krb_text.proofs.CutLemmas.{no_end}
use Rattle.krb_input.proofs.ReadingLemmas.{unbroken-behind}
use Rattle.krb_input.proofs.reading.take_ended.Goals as goal

pub returns-in-None-clause-rest : goal.returns-in-None-clause-rest
returns-in-None-clause-rest g c =
    unbroken-behind c.args.pieces.now.held c.behind.result.now c.args.before c.requires.before.1 (c.behind.ensures ∙ ap (drop c.args.before) c.held.ensures.held) (sym c.newline.ensures ∙ c.in-None.is)

pub returns-in_ok-count-in-Some-clause-rest : goal.returns-in_ok-count-in-Some-clause-rest
returns-in_ok-count-in-Some-clause-rest g c =
    let count = c.in_ok-count-in-Some.count in
    let held_is = ap (λ (p : Pieces). p.held) c.take.ensures in
    subst (λ l. is_unbroken l ≡ true) (sym held_is)
    (no_end (drop count c.args.pieces.now.held) (ap (λ l. first_end (drop count l)) (sym c.held-in-Some.ensures.held) ∙ c.in_ok-count-in-Some.ensures.rest))
