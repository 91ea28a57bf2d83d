use Rattle.krb_password_change.proofs.steps.behind_turn.Goals as goal

pub returns-in-Ends-clause-down : goal.returns-in-Ends-clause-down
returns-in-Ends-clause-down c = λ turns down. c.ask_change.ensures.down turns
