use Rattle.sspi_core.proofs.Chain.{stops, goes, given}
use Rattle.krb_replies.specs.Keys.{HandsOnKey}
use Rattle.krb_replies.proofs.keys.session_key_in_tgs_rep.Goals as goal

pub returns-in_err-brought : goal.returns-in_err-brought
unfolding HandsOnKey
returns-in_err-brought c = stops _ _ _ _ (rw c.none-rules.ensures at c.in_err-brought.ensures) c.from_residual.ensures.1

pub returns : goal.returns
unfolding HandsOnKey
returns c = goes _ _ _ _ (rw c.none-rules.ensures at c.in_ok-brought.ensures) (given _)
