use Rattle.krb_tickets.proofs.Starts.{asks, moved, refused}
use Rattle.krb_tickets.specs.Steps.{AsksWithHeld}
use Rattle.sspi_core.proofs.Chain.{stops}
use Rattle.krb_tickets.proofs.start.ask_with.Goals as goal

pub returns-clause-step : goal.returns-clause-step
returns-clause-step c =
    asks c.args.seeker.value c.args.realm.now c.args.held c.args.draw.now c.in_ok-begun.begun _ c.awaiting.result
    (moved c.args.realm.now c.args.held c.args.draw.now _ _ _ c.deref.ensures c.in_ok-begun.ensures) c.in_ok-request.ensures c.awaiting.ensures.phase

pub returns-in_err-begun-clause-step : goal.returns-in_err-begun-clause-step
unfolding AsksWithHeld
returns-in_err-begun-clause-step c =
    stops _ _ _ _ (moved c.args.realm.now c.args.held c.args.draw.now _ _ _ c.deref.ensures c.in_err-begun.ensures) (refused _ _ c.from_residual.ensures.1)
