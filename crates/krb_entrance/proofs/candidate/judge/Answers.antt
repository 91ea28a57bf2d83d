use Rattle.krb_entrance.proofs.TurnedAway.{stopped, passes_at}
use Rattle.krb_entrance.proofs.candidate.judge.Goals as goal

pub returns-in-Ok-clause-passes : goal.returns-in-Ok-clause-passes
returns-in-Ok-clause-passes c =
    rw c.in-Ok.ensures.named (passes_at c.args.keys.now c.args.channel c.args.token.now c.args.draw.now _ _ _ c.in_ok-connection.ensures.1 c.in-Ok.ensures.passes)

pub returns-in-Err-clause-refused : goal.returns-in-Err-clause-refused
returns-in-Err-clause-refused c =
    stopped c.args.keys.now c.args.channel c.args.token.now c.args.draw.now _ _ c.in-Err.error c.in_ok-connection.ensures.1 c.in-Err.ensures.refused
