use Rattle.sspi_core.proofs.Chain.{goes, stops}
use Rattle.krb_tgs.specs.Taken.{TakesTgsRep}
use Rattle.krb_tgs.proofs.replies.take_tgs_rep.Goals as goal

pub returns-in_err-next-clause-step : goal.returns-in_err-next-clause-step
unfolding TakesTgsRep
returns-in_err-next-clause-step c =
    goes _ _ c.in_ok-tgs_rep.tgs_rep _ c.in_ok-tgs_rep.ensures.step (stops _ _ _ _ c.in_err-next.ensures c.from_residual-in_err-next.ensures.1)

pub returns-clause-step : goal.returns-clause-step
unfolding TakesTgsRep
returns-clause-step c = goes _ _ _ _ c.in_ok-tgs_rep.ensures.step (goes _ _ _ _ c.in_ok-next.ensures c.shown_by_tgs.ensures.made)
