use Rattle.krb_dialogue.proofs.Begun.{run_begins, run_asks}
use Rattle.krb_dialogue.proofs.exchange.begin_run.Goals as goal

pub returns-clause-begins : goal.returns-clause-begins
returns-clause-begins c =
    run_begins c.args.initiation c.args.draw.now c.new.result c.begin_exchange.result c.new.ensures.initiation c.new.ensures.phase c.begin_exchange.ensures.begins

pub returns-clause-turns : goal.returns-clause-turns
returns-clause-turns c = run_asks c.args.initiation c.args.draw.now c.new.result c.begin_exchange.result c.new.ensures.turns c.begin_exchange.ensures.turns
