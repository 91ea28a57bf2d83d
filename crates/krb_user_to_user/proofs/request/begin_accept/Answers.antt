use Rattle.sspi_core.proofs.Chain.{stops, goes, answers}
use Rattle.krb_user_to_user.specs.TgtRequests.{RequestsTgt}
use Rattle.krb_user_to_user.proofs.request.begin_accept.Goals as goal

pub returns-in_err-client-clause-step : goal.returns-in_err-client-clause-step
unfolding RequestsTgt
returns-in_err-client-clause-step c =
    goes _ _ _ _ (answers _ _ c.in_ok-check_name.ensures) (goes _ _ _ _ (answers _ _ c.in_ok-check_user.ensures)
    (stops _ _ _ _ c.in_err-client.ensures.named c.from_residual-in_err-client.ensures.1))
