use Rattle.sspi_core.proofs.Chain.{halts, follows, answers}
use Rattle.std.proofs.Common.{Ok, ap}
use Rattle.krb_replies.specs.Keys.{TakesKey}
use Rattle.krb_replies.proofs.keys.taken_key.Goals as goal

pub returns-in_err-own : goal.returns-in_err-own
unfolding TakesKey
returns-in_err-own c = answers _ _ (halts _ _ _ _ c.in_err-own.ensures c.from_residual.ensures.1)

pub returns : goal.returns
unfolding TakesKey
returns c = answers _ _ (follows _ _ c.in_ok-own.own _ c.in_ok-own.ensures (record { is = ap Ok c.key_in.ensures }))
