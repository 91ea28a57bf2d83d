use Rattle.std.proofs.Common.{length, arith}
use Rattle.std.proofs.lemmas.Result.{err_from_is_err_and}
use Rattle.krb_sessions.proofs.TokenLemmas.{delivers, is_short, refused_alone}
use Rattle.krb_sessions.proofs.message.wrap_into.Goals as goal

pub returns-in_err-count-clause-refused : goal.returns-in_err-count-clause-refused
returns-in_err-count-clause-refused c =
    let p = err_from_is_err_and c.from_residual.result c.from_residual.ensures.1 in
    rw (p.1, p.2) (c.in_err-count.ensures.refused c.args.confounder.now)

pub returns-then-out-count-clause-refused : goal.returns-then-out-count-clause-refused
returns-then-out-count-clause-refused c =
    is_short c.args.context.now c.args.confounder.now c.args.text.now (length c.args.out.now) c.in_ok-count.count
    (c.in_ok-count.ensures.len c.args.confounder.now c.told-confounder (record { below = λ k. omega (arith, c.fits-confounder k) })) c.if-out-count.true

pub returns-in_err-written-clause-refused : goal.returns-in_err-written-clause-refused
returns-in_err-written-clause-refused c =
    let p = err_from_is_err_and c.from_residual-in_err-written.result c.from_residual-in_err-written.ensures.1 in
    rw (p.1, p.2)
    (refused_alone c.args.context.now c.args.confounder.now c.args.text.now (length c.args.out.now) c.in_ok-count.count c.in_err-written.field-0.0
    (c.in_ok-count.ensures.len c.args.confounder.now c.told-confounder (record { below = λ k. omega (arith, c.fits-confounder k) })) c.if-out-count.false
    c.in_err-written.ensures.refused)

pub returns-clause-gives : goal.returns-clause-gives
returns-clause-gives c =
    delivers c.args.context.now c.args.confounder.now c.args.text.now c.args.out.now c.wrap_into.new.out (length c.args.out.now) c.in_ok-written.written
    c.in_ok-written.ensures.wrapped
