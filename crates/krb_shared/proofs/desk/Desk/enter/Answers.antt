use Rattle.std.proofs.Common.{◌++◌, ◌∷◌, [], ◌∙◌, List, ap}
use Rattle.krb_shared.specs.declared.entry.Entry.{Entry}
use Rattle.krb_shared.specs.Desk.{Desk}
use Rattle.krb_shared.proofs.DeskLemmas.{entry_of, kept_call, judged_call}
use Rattle.krb_shared.proofs.desk.Desk.enter.Goals as goal

pub invariant_of-self-2 : goal.invariant_of-self-2
invariant_of-self-2 c =
    kept_call c.self.inside.book c.admit.new.self c.self.inside.journal.items c.push_reserved.new.self.items c.args.seat c.args.call c.args.entered c.args.asked c.in_ok-verdict.verdict c.requires c.self.invariant c.in_ok-verdict.ensures.step
    (c.push_reserved.ensures.items ∙ ap (λ (es : List Entry). es ++ entry_of c.args.seat c.args.call c.args.entered c.in_ok-verdict.verdict ∷ []) c.in_ok-reserve.ensures.items)

pub returns-clause-judged : goal.returns-clause-judged
returns-clause-judged c =
    judged_call c.args.self.now.skew c.self.inside.book c.admit.new.self c.self.inside.journal.items c.push_reserved.new.self.items c.args.seat c.args.call c.args.entered c.args.asked c.in_ok-verdict.verdict c.requires c.self.invariant c.in_ok-verdict.ensures.step
    (c.push_reserved.ensures.items ∙ ap (λ (es : List Entry). es ++ entry_of c.args.seat c.args.call c.args.entered c.in_ok-verdict.verdict ∷ []) c.in_ok-reserve.ensures.items)
    (ap (λ (d : Desk). d.skew) c.self.view_is) c.in_ok-verdict.ensures.judged
