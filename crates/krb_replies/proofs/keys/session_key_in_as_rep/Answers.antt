use Rattle.sspi_core.proofs.Chain.{stops, goes, given}
use Rattle.krb_replies.specs.Keys.{BringsKey}
use Rattle.krb_replies.proofs.keys.session_key_in_as_rep.Goals as goal

pub returns-in_err-brought : goal.returns-in_err-brought
unfolding BringsKey
returns-in_err-brought c = stops _ _ _ _ (rw c.none-rules.ensures at c.in_err-brought.ensures) c.from_residual.ensures.1

pub returns : goal.returns
unfolding BringsKey
returns c = goes _ _ _ _ (rw c.none-rules.ensures at c.in_ok-brought.ensures) (given _)
