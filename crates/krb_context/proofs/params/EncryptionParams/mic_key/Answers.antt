use Rattle.sspi_core.proofs.Chain.{follows, halts, gives, lent_err}
use Rattle.krb_context.specs.Mics.{MicKeys}
use Rattle.krb_context.proofs.params.EncryptionParams.mic_key.Goals as goal

pub returns-in_err-key : goal.returns-in_err-key
unfolding MicKeys
returns-in_err-key c = halts _ _ _ _ c.in_err-key.ensures (lent_err _ _ _ c.from_residual.ensures.1)

pub returns-in_err-check_key_size : goal.returns-in_err-check_key_size
unfolding MicKeys
returns-in_err-check_key_size c = follows _ _ _ _ c.in_ok-key.ensures (halts _ _ _ _ c.in_err-check_key_size.ensures (lent_err _ _ _ c.from_residual-in_err-check_key_size.ensures.1))

pub returns : goal.returns
unfolding MicKeys
returns c = follows _ _ _ _ c.in_ok-key.ensures (follows _ _ _ _ c.in_ok-check_key_size.ensures (gives _))
