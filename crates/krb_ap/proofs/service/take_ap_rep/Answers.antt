use Rattle.sspi_core.proofs.Chain.{stops, goes, answers}
use Rattle.krb_ap.specs.Answered.{TakesApRep}
use Rattle.krb_ap.proofs.ApRepTokens.{sized, read_as, refused_as}
use Rattle.krb_ap.proofs.service.take_ap_rep.Goals as goal

pub finish-requires-clause-key : goal.finish-requires-clause-key
finish-requires-clause-key c = sized _ _ _ _ _ c.suite.ensures c.in_ok-part.ensures.step

pub returns-in_err-part : goal.returns-in_err-part
unfolding TakesApRep
returns-in_err-part c = record {
  step =
      goes _ _ _ _ (read_as _ _ _ _ c.is_bare-dce.ensures c.in_ok-message.ensures.step) (goes _ _ _ _ (answers _ _ c.in_ok-key.ensures)
      (stops _ _ _ _ (refused_as _ _ _ _ _ c.suite.ensures c.in_err-part.ensures.step) c.from_residual-in_err-part.ensures.1));
}
