use Rattle.krb_as.specs.Replied.{LeavesSalt}
use Rattle.sspi_core.proofs.Chain.{stops, goes}
use Rattle.krb_as.proofs.reply.left_salt.Goals as goal

pub returns-in_err-salt : goal.returns-in_err-salt
unfolding LeavesSalt
returns-in_err-salt c = stops _ _ _ _ c.in_err-salt.ensures c.from_residual.ensures.1

pub returns : goal.returns
unfolding LeavesSalt
returns c = goes _ _ _ _ c.in_ok-salt.ensures c.salt_or.ensures
