use Rattle.std.proofs.Common.{ap}
use Rattle.std.specs.Prelude.{Ok}
use Rattle.sspi_core.proofs.Chain.{stops, goes, answers}
use Rattle.krb_as.specs.Replied.{TellsSuite}
use Rattle.krb_as.proofs.reply.told_suite.Goals as goal

pub returns-in_err-named : goal.returns-in_err-named
unfolding TellsSuite
returns-in_err-named c = stops _ _ _ _ c.in_err-named.ensures c.from_residual.ensures.1

pub returns : goal.returns
unfolding TellsSuite
returns c = goes _ _ _ _ c.in_ok-named.ensures (answers _ _ (record { is = ap Ok c.suite_told.ensures }))
