use Rattle.sspi_core.proofs.Chain.{stops, goes}
use Rattle.krb_as.specs.AsPhases.{SealsTime}
use Rattle.krb_as.proofs.as_phase.seal_time.Goals as goal

pub returns-in_err-suite-clause-step : goal.returns-in_err-suite-clause-step
unfolding SealsTime
returns-in_err-suite-clause-step c = goes _ _ _ _ c.in_ok-salt.ensures (stops _ _ _ _ c.in_err-suite.ensures c.from_residual-in_err-suite.ensures.1)

pub returns-in_err-key-clause-step : goal.returns-in_err-key-clause-step
unfolding SealsTime
returns-in_err-key-clause-step c =
    goes _ _ _ _ c.in_ok-salt.ensures (goes _ _ _ _ c.in_ok-suite.ensures (stops _ _ _ _ c.in_err-key.ensures.step c.from_residual-in_err-key.ensures.1))

pub returns-clause-step : goal.returns-clause-step
unfolding SealsTime
returns-clause-step c =
    goes _ _ _ _ c.in_ok-salt.ensures (goes _ _ _ _ c.in_ok-suite.ensures (goes _ _ _ _ c.in_ok-key.ensures.step c.sent_second.ensures.step))
