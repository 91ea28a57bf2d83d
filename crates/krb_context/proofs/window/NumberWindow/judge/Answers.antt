use Rattle.std.proofs.Common.{rules, ◌≡◌, ◌∙◌}
use Rattle.krb_context.specs.Window.{number_verdict}
use Rattle.krb_context.specs.declared.window.NumberVerdict.TheVariants.{Fresh}
use Rattle.krb_context.proofs.WindowLemmas.{judged_is}
use Rattle.krb_context.proofs.window.NumberWindow.judge.Goals as goal

pub returns-then-self-eq0-clause-judges : goal.returns-then-self-eq0-clause-judges
returns-then-self-eq0-clause-judges c = λ places stands.
    let exact : Fresh ≡ number_verdict c.args.self.now c.args.number = search rules in
    exact ∙ judged_is c.args.self.now places c.args.number stands

pub returns-then-is_ahead-clause-judges : goal.returns-then-is_ahead-clause-judges
returns-then-is_ahead-clause-judges c = λ places stands.
    let exact : Fresh ≡ number_verdict c.args.self.now c.args.number = search rules in
    exact ∙ judged_is c.args.self.now places c.args.number stands
