use Rattle.std.proofs.Common.{sym, ◌∙◌}
use Rattle.krb_admission.proofs.Steps.{last_word}
use Rattle.krb_admission.proofs.whole.judge_token.Goals as goal

pub returns-then-awaits_last_word-clause-step : goal.returns-then-awaits_last_word-clause-step
returns-then-awaits_last_word-clause-step g c =
    λ ne. last_word g.G.ReplayGate.admits c.args.server.now c.args.dce c.args.token.now c.args.draw.now c.args.gate.now _ _
    (sym c.awaits_last_word.ensures ∙ c.if-awaits_last_word.true) (c.conclude.ensures.step ne)
