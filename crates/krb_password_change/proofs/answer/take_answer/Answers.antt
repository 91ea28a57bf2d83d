use Rattle.sspi_core.proofs.Chain.{stops, goes}
use Rattle.krb_password_change.specs.ChangeSteps.{TakesAnswer}
use Rattle.krb_password_change.proofs.answer.take_answer.Goals as goal

pub returns-in_err-code-clause-step : goal.returns-in_err-code-clause-step
unfolding TakesAnswer
returns-in_err-code-clause-step c =
    goes _ _ _ _ c.in_ok-answer.ensures (stops _ _ _ _ c.in_err-code.ensures c.from_residual-in_err-code.ensures.1)
