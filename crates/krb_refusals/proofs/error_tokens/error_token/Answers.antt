use Rattle.sspi_core.proofs.Chain.{stops, goes, answers}
use Rattle.krb_refusals.specs.ErrorTokens.{TellsRefusal}
use Rattle.krb_refusals.proofs.error_tokens.error_token.Goals as goal

pub returns-in_err-hold-3 : goal.returns-in_err-hold-3
unfolding TellsRefusal
returns-in_err-hold-3 c =
    goes _ _ _ _ (answers _ _ c.in_ok-hold.ensures) (goes _ _ _ _ (answers _ _ c.in_ok-hold-2.ensures)
    (stops _ _ _ _ (answers _ _ c.in_err-hold-3.ensures) c.from_residual-in_err-hold-3.ensures.1))

pub returns : goal.returns
unfolding TellsRefusal
returns c =
    goes _ _ _ _ (answers _ _ c.in_ok-hold.ensures) (goes _ _ _ _ (answers _ _ c.in_ok-hold-2.ensures)
    (goes _ _ _ _ (answers _ _ c.in_ok-hold-3.ensures) c.named_token.ensures))
