use Rattle.std.proofs.lemmas.Result.{err_from_is_err_and}
use Rattle.krb_sessions.proofs.OrderLemmas.{refuses_mic, verifies_by, refuses_mic_by}
use Rattle.krb_sessions.proofs.session.Session.verify.Goals as goal

pub returns-in_err-check_mic-clause-refused : goal.returns-in_err-check_mic-clause-refused
returns-in_err-check_mic-clause-refused c =
    let p = err_from_is_err_and c.from_residual.result c.from_residual.ensures.1 in
    rw (p.1, p.2) (refuses_mic c.args.self.now.order c.args.self.now.connection c.args.mic.now c.args.payload.now _ c.in_err-check_mic.ensures.refused)

pub returns-in-Ok-clause-verified : goal.returns-in-Ok-clause-verified
returns-in-Ok-clause-verified c =
    verifies_by c.args.self.now.order c.args.self.now.connection c.args.mic.now c.args.payload.now c.token_number.result c.token_number.ensures
    c.in_ok-check_mic.ensures.checked c.in-Ok.ensures.awaited

pub returns-in-Err-clause-refused : goal.returns-in-Err-clause-refused
returns-in-Err-clause-refused c =
    refuses_mic_by c.args.self.now.order c.args.self.now.connection c.args.mic.now c.args.payload.now c.token_number.result c.in-Err.cause c.from.result c.from.ensures
    c.token_number.ensures c.in_ok-check_mic.ensures.checked c.in-Err.ensures.awaited
