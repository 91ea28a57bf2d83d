use Rattle.sspi_core.proofs.Chain.{follows, halts, gives}
use Rattle.krb_context.specs.Unwraps.{Heads}
use Rattle.krb_context.proofs.params.EncryptionParams.head.Goals as goal

pub returns-in_err-header : goal.returns-in_err-header
unfolding Heads
returns-in_err-header c = halts _ _ _ _ c.in_err-header.ensures c.from_residual.ensures.1

pub returns-in_err-check_direction : goal.returns-in_err-check_direction
unfolding Heads
returns-in_err-check_direction c = follows _ _ _ _ c.in_ok-header.ensures (halts _ _ _ _ c.in_err-check_direction.ensures c.from_residual-in_err-check_direction.ensures.1)

pub returns-in_err-check_count : goal.returns-in_err-check_count
unfolding Heads
returns-in_err-check_count c = follows _ _ _ _ c.in_ok-header.ensures (follows _ _ _ _ c.in_ok-check_direction.ensures (halts _ _ _ _ c.in_err-check_count.ensures c.from_residual-in_err-check_count.ensures.1))

pub returns-in_err-check_key_size : goal.returns-in_err-check_key_size
unfolding Heads
returns-in_err-check_key_size c = follows _ _ _ _ c.in_ok-header.ensures (follows _ _ _ _ c.in_ok-check_direction.ensures (follows _ _ _ _ c.in_ok-check_count.ensures (halts _ _ _ _ c.in_err-check_key_size.ensures c.from_residual-in_err-check_key_size.ensures.1)))

pub returns : goal.returns
unfolding Heads
returns c = follows _ _ _ _ c.in_ok-header.ensures (follows _ _ _ _ c.in_ok-check_direction.ensures (follows _ _ _ _ c.in_ok-check_count.ensures (follows _ _ _ _ c.in_ok-check_key_size.ensures (gives _))))
