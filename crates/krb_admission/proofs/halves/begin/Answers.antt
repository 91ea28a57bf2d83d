use Rattle.std.proofs.Common.{refl, sym, ◌∙◌}
use Rattle.krb_admission.proofs.HalvesLemmas.{not_waiting, no_properties, no_request, not_allowed, is_allowed}
use Rattle.sspi_core.proofs.Chain.{lent_err}
use Rattle.krb_admission.proofs.halves.begin.Goals as goal

pub returns-in_err-check_state-clause-begins : goal.returns-in_err-check_state-clause-begins
returns-in_err-check_state-clause-begins c = not_waiting c.args.server.now c.args.dce c.args.token.now _ _ c.in_err-check_state.ensures (lent_err _ _ _ c.from_residual.ensures.1)

pub returns-in_err-properties-clause-begins : goal.returns-in_err-properties-clause-begins
returns-in_err-properties-clause-begins c =
    no_properties c.args.server.now c.args.dce c.args.token.now _ _ _ c.in_ok-check_state.ensures c.in_err-properties.ensures (lent_err _ _ _ c.from_residual-in_err-properties.ensures.1)

pub returns-in_err-read_request-clause-begins : goal.returns-in_err-read_request-clause-begins
returns-in_err-read_request-clause-begins c =
    no_request c.args.server.now c.args.dce c.args.token.now _ c.in_ok-properties.properties.now c.in_ok-check_state.ensures c.in_ok-properties.ensures _ _ c.in_err-read_request.ensures (lent_err _ _ _ c.from_residual-in_err-read_request.ensures.1)

pub returns-in_err-allow-clause-begins : goal.returns-in_err-allow-clause-begins
returns-in_err-allow-clause-begins c =
    let allows = rw (c.deref.ensures ∙ c.in_ok-request.ensures) at (c.in_err-allow.ensures c.args.server.now refl (sym c.channel_held-channel.ensures)) in
    not_allowed c.args.server.now c.args.dce c.args.token.now _ c.in_ok-properties.properties.now c.in_ok-check_state.ensures c.in_ok-properties.ensures c.in_ok-read_request.field-0 _ _ c.in_ok-read_request.ensures allows (lent_err _ _ _ c.from_residual-in_err-allow.ensures.1)

pub returns-clause-begins : goal.returns-clause-begins
returns-clause-begins c =
    let allows = rw (c.deref.ensures ∙ c.in_ok-request.ensures) at (c.in_ok-allow.ensures c.args.server.now refl (sym c.channel_held-channel.ensures)) in
    rw c.in_ok-request.ensures (is_allowed c.args.server.now c.args.dce c.args.token.now _ c.in_ok-properties.properties.now c.in_ok-check_state.ensures c.in_ok-properties.ensures c.in_ok-read_request.field-0 _ c.in_ok-read_request.ensures allows)
