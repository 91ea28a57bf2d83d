use Rattle.std.proofs.Common.{ap}
use Rattle.std.specs.Prelude.{Ok}
use Rattle.sspi_core.proofs.Chain.{stops, goes, answers}
use Rattle.krb_context.specs.Mics.{MakesMic}
use Rattle.krb_context.proofs.MicChecks.{made_as}
use Rattle.krb_context.proofs.context.Kerberos.mic_token.Goals as goal

pub returns-in_err-key : goal.returns-in_err-key
unfolding MakesMic
returns-in_err-key c = stops _ _ _ _ (answers _ _ c.in_err-key.ensures) c.from_residual.ensures.1

pub returns-in_err-check_key_size : goal.returns-in_err-check_key_size
unfolding MakesMic
returns-in_err-check_key_size c =
    goes _ _ _ _ (answers _ _ c.in_ok-key.ensures) (stops _ _ _ _ (answers _ _ c.in_err-check_key_size.ensures) c.from_residual-in_err-check_key_size.ensures.1)

pub returns : goal.returns
unfolding MakesMic
returns c =
    let token = made_as c.args.self.now.encryption_params c.in_ok-key.key.now c.is_some-acceptor.result _ _ c.own_sign_flags.result _ c.args.payload.now c.mic_header-header.result
    c.mic_code-code.result c.joined.result c.is_some-acceptor.ensures c.own_sign_flags.ensures c.mic_header-header.ensures c.mic_code-code.ensures c.joined.ensures in
    goes _ _ _ _ (answers _ _ c.in_ok-key.ensures) (goes _ _ _ _ (answers _ _ c.in_ok-check_key_size.ensures) (answers _ _ (record { is = ap Ok token })))
