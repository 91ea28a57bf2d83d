use Rattle.sspi_core.proofs.Chain.{follows, halts, gives, lent_err}
use Rattle.krb_context.specs.Wraps.{Readies}
use Rattle.krb_context.proofs.wrap.ready_to_wrap.Goals as goal

pub returns-in_err-key : goal.returns-in_err-key
unfolding Readies
returns-in_err-key c = halts _ _ _ _ c.in_err-key.ensures (lent_err _ _ _ c.from_residual.ensures.1)

pub returns-in_err-check_parts : goal.returns-in_err-check_parts
unfolding Readies
returns-in_err-check_parts c = follows _ _ _ _ c.in_ok-key.ensures (halts _ _ _ _ c.in_err-check_parts.ensures (lent_err _ _ _ c.from_residual-in_err-check_parts.ensures.1))

pub returns-in_err-check_key_size : goal.returns-in_err-check_key_size
unfolding Readies
returns-in_err-check_key_size c = follows _ _ _ _ c.in_ok-key.ensures (follows _ _ _ _ c.in_ok-check_parts.ensures (halts _ _ _ _ c.in_err-check_key_size.ensures (lent_err _ _ _ c.from_residual-in_err-check_key_size.ensures.1)))

pub returns-in_err-check_token_room : goal.returns-in_err-check_token_room
unfolding Readies
returns-in_err-check_token_room c = follows _ _ _ _ c.in_ok-key.ensures (follows _ _ _ _ c.in_ok-check_parts.ensures (follows _ _ _ _ c.in_ok-check_key_size.ensures (halts _ _ _ _ c.in_err-check_token_room.ensures (lent_err _ _ _ c.from_residual-in_err-check_token_room.ensures.1))))

pub returns : goal.returns
unfolding Readies
returns c = follows _ _ _ _ c.in_ok-key.ensures (follows _ _ _ _ c.in_ok-check_parts.ensures (follows _ _ _ _ c.in_ok-check_key_size.ensures (follows _ _ _ _ c.in_ok-check_token_room.ensures (gives _))))
