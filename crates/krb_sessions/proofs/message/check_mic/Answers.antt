use Rattle.std.proofs.lemmas.Result.{on_ok_weaker}
use Rattle.krb_sessions.proofs.OrderLemmas.{mic_long}
use Rattle.krb_sessions.proofs.message.check_mic.Goals as goal

pub returns-clause-long : goal.returns-clause-long
returns-clause-long c =
    on_ok_weaker c.verify_mic_token.result (mic_long c.args.context.now c.args.mic.now c.args.payload.now) c.verify_mic_token.ensures.verified
