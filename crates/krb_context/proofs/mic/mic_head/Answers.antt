use Rattle.sspi_core.proofs.Chain.{follows, halts, gives}
use Rattle.krb_context.specs.Mics.{MicHeads}
use Rattle.krb_context.proofs.mic.mic_head.Goals as goal

pub returns-in_err-header : goal.returns-in_err-header
unfolding MicHeads
returns-in_err-header c = halts _ _ _ _ c.in_err-header.ensures c.from_residual.ensures.1

pub returns-in_err-check_direction : goal.returns-in_err-check_direction
unfolding MicHeads
returns-in_err-check_direction c = follows _ _ _ _ c.in_ok-header.ensures (halts _ _ _ _ c.in_err-check_direction.ensures c.from_residual-in_err-check_direction.ensures.1)

pub returns-in_err-check_unsealed : goal.returns-in_err-check_unsealed
unfolding MicHeads
returns-in_err-check_unsealed c = follows _ _ _ _ c.in_ok-header.ensures (follows _ _ _ _ c.in_ok-check_direction.ensures (halts _ _ _ _ c.in_err-check_unsealed.ensures c.from_residual-in_err-check_unsealed.ensures.1))

pub returns : goal.returns
unfolding MicHeads
returns c = follows _ _ _ _ c.in_ok-header.ensures (follows _ _ _ _ c.in_ok-check_direction.ensures (follows _ _ _ _ c.in_ok-check_unsealed.ensures (gives _)))
