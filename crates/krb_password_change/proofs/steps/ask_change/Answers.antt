use Rattle.sspi_core.proofs.Chain.{stops, goes, answers}
use Rattle.krb_password_change.specs.ChangeSteps.{AsksChange}
use Rattle.krb_password_change.proofs.steps.ask_change.Goals as goal

pub returns-in_err-service-clause-step : goal.returns-in_err-service-clause-step
unfolding AsksChange
returns-in_err-service-clause-step c =
    goes _ _ _ _ (answers _ _ c.in_ok-check_key.ensures) (stops _ _ _ _ c.in_err-service.ensures.step c.from_residual-in_err-service.ensures.1)
