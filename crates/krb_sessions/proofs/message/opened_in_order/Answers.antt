use Rattle.std.proofs.lemmas.Result.{err_from_is_err_and}
use Rattle.krb_sessions.proofs.OrderLemmas.{refuses_unopened, unwraps_by, refuses_by}
use Rattle.krb_sessions.proofs.message.opened_in_order.Goals as goal

pub returns-in_err-text-clause-refused : goal.returns-in_err-text-clause-refused
returns-in_err-text-clause-refused c =
    let p = err_from_is_err_and c.from_residual.result c.from_residual.ensures.1 in
    rw (p.1, p.2) (refuses_unopened c.args.order.now c.args.context.now c.args.sealed.now _ c.in_err-text.ensures.refused)

pub returns-in-Ok-clause-opened : goal.returns-in-Ok-clause-opened
returns-in-Ok-clause-opened c =
    unwraps_by c.args.order.now c.args.context.now c.args.sealed.now _ c.token_number.result c.token_number.ensures c.in_ok-text.ensures.opened c.in-Ok.ensures.awaited

pub returns-in-Err-clause-refused : goal.returns-in-Err-clause-refused
returns-in-Err-clause-refused c =
    refuses_by c.args.order.now c.args.context.now c.args.sealed.now _ c.token_number.result c.in-Err.cause c.from.result c.from.ensures c.token_number.ensures
    c.in_ok-text.ensures.opened c.in-Err.ensures.awaited
