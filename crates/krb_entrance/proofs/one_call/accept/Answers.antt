use Rattle.std.proofs.lemmas.Result.{IfOk-weaker, IfErr-weaker, err_from_is_err_and}
use Rattle.krb_entrance.proofs.Named.{let_in_keyless}
use Rattle.krb_entrance.proofs.TurnedAway.{stopped_before, stopped_after}
use Rattle.krb_entrance.proofs.one_call.accept.Goals as goal

pub returns-in_err-candidate-clause-refused : goal.returns-in_err-candidate-clause-refused
returns-in_err-candidate-clause-refused c =
    let p = err_from_is_err_and c.from_residual.result c.from_residual.ensures.1 in
    rw (p.1, p.2) (stopped_before c.args.keys.now c.args.channel c.args.token.now c.args.draw.now c.args.book.now _ c.in_err-candidate.ensures.refused)

pub returns-clause-admits : goal.returns-clause-admits
returns-clause-admits c =
    IfOk-weaker c.admit.result _ _
    (λ session let_in. record { candidate = c.in_ok-candidate.candidate; passes = c.in_ok-candidate.ensures.passes; client = c.in_ok-candidate.ensures.client; let_in = let_in })
    c.admit.ensures.admits

pub returns-clause-keyless : goal.returns-clause-keyless
returns-clause-keyless c =
    IfOk-weaker c.admit.result _ _
    (λ session let_in. let_in_keyless c.args.keys.now c.args.channel c.args.token.now c.args.draw.now c.in_ok-candidate.candidate c.args.book.now c.admit.new.book session c.in_ok-candidate.ensures.passes let_in)
    c.admit.ensures.admits

pub returns-clause-refused : goal.returns-clause-refused
returns-clause-refused c =
    IfErr-weaker c.admit.result _ _
    (λ error refuses. stopped_after c.args.keys.now c.args.channel c.args.token.now c.args.draw.now c.in_ok-candidate.candidate c.args.book.now c.admit.new.book error c.in_ok-candidate.ensures.passes refuses)
    c.admit.ensures.refused
