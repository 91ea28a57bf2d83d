use Rattle.krb_keyring.specs.Judging.{Reads}
use Rattle.sspi_core.proofs.Chain.{answers, goes, stops}
use Rattle.krb_keyring.proofs.keyring.Keyring.read.Goals as goal

pub returns-in_err-hold : goal.returns-in_err-hold
unfolding Reads
returns-in_err-hold c = stops _ _ _ _ (answers _ _ c.in_err-hold.ensures) c.from_residual.ensures.1

pub returns : goal.returns
unfolding Reads
returns c = goes _ _ _ _ (answers _ _ c.in_ok-hold.ensures) c.read_token.ensures
