use Rattle.std.proofs.Common.{◌≡◌, ap, ◌∙◌}
use Rattle.krb_input.specs.Parted.{events_of}
use Rattle.krb_threads.proofs.AnswersLemmas.{numbered}
use Rattle.krb_threads.proofs.command.numbered_text.Goals as goal

pub text_of-text-requires-clause-low : goal.text_of-text-requires-clause-low
text_of-text-requires-clause-low g c =
    let is : c.replace-events.result.items ≡ c.args.known.now.so_far.events = cc in
    numbered 0 1 c.args.known.now.so_far.events _ _ _ _ _ _ c.requires.low (c.in_ok-one.ensures.low ∙ ap (events_of 0) is) c.in_ok-answers.ensures.low_runs

pub text_of-text-requires-clause-high : goal.text_of-text-requires-clause-high
text_of-text-requires-clause-high g c =
    let is : c.replace-events.result.items ≡ c.args.known.now.so_far.events = cc in
    numbered 1 1 c.args.known.now.so_far.events _ _ _ _ _ _ c.requires.high (c.in_ok-one.ensures.high ∙ ap (events_of 1) is) c.in_ok-answers.ensures.high_runs
