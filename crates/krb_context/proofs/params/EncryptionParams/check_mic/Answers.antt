use Rattle.sspi_core.proofs.Chain.{follows, halts}
use Rattle.krb_context.specs.Mics.{ReadsMic}
use Rattle.krb_context.proofs.MicChecks.{mic_headed, mic_sized}
use Rattle.krb_context.proofs.params.EncryptionParams.check_mic.Goals as goal

pub check_code-requires-clause-long : goal.check_code-requires-clause-long
check_code-requires-clause-long c = (mic_headed _ _ _ c.in_ok-header.ensures).0

pub check_code-requires-clause-header : goal.check_code-requires-clause-header
check_code-requires-clause-header c = (mic_headed _ _ _ c.in_ok-header.ensures).1

pub check_code-requires-clause-size : goal.check_code-requires-clause-size
check_code-requires-clause-size c = mic_sized _ _ c.in_ok-key.ensures

pub returns-in_err-header : goal.returns-in_err-header
unfolding ReadsMic
returns-in_err-header c = halts _ _ _ _ c.in_err-header.ensures c.from_residual.ensures.1

pub returns-in_err-key : goal.returns-in_err-key
unfolding ReadsMic
returns-in_err-key c = follows _ _ _ _ c.in_ok-header.ensures (halts _ _ _ _ c.in_err-key.ensures c.from_residual-in_err-key.ensures.1)

pub returns : goal.returns
unfolding ReadsMic
returns c = follows _ _ _ _ c.in_ok-header.ensures (follows _ _ _ _ c.in_ok-key.ensures c.check_code.ensures)
