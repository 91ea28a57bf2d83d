use Rattle.std.proofs.Common.{arith}
use Rattle.krb_replay.specs.Gate.{is_judged}
use Rattle.krb_replay.proofs.telling.TellingGateReplayGate.admit.Goals as goal

pub returns-clause-judged : goal.returns-clause-judged
returns-clause-judged c =
    is_judged c.args.self.now.skew c.max-moment.result c.is_seen-seen.result c.args.ask c.judged-verdict.result (omega (arith, c.max-moment.ensures)) c.judged-verdict.ensures
