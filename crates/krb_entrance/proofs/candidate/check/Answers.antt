use Rattle.krb_entrance.specs.Candidates.{Checks}
use Rattle.sspi_core.proofs.Chain.{answers, goes, stops}
use Rattle.krb_entrance.proofs.candidate.check.Goals as goal

pub returns-in_err-hold : goal.returns-in_err-hold
unfolding Checks
returns-in_err-hold c = stops _ _ _ _ (answers _ _ c.in_err-hold.ensures) c.from_residual.ensures.1

pub returns : goal.returns
unfolding Checks
returns c = goes _ _ _ _ (answers _ _ c.in_ok-hold.ensures) c.judge_with.ensures
