use Rattle.std.proofs.Common.{refl, sym, ◌∙◌}
use Rattle.krb_admission.specs.Halves.{with_keys}
use Rattle.krb_admission.proofs.HalvesLemmas.{not_waiting, no_request, not_allowed, is_allowed}
use Rattle.sspi_core.proofs.Chain.{lent_err}
use Rattle.krb_admission.proofs.halves.begin_with.Goals as goal

pub returns-in_err-check_state : goal.returns-in_err-check_state
returns-in_err-check_state c = not_waiting (with_keys c.args.keys.now c.args.server.now) c.args.dce c.args.token.now _ _ c.in_err-check_state.ensures (lent_err _ _ _ c.from_residual.ensures.1)

pub returns-in_err-read_request : goal.returns-in_err-read_request
returns-in_err-read_request c =
    no_request (with_keys c.args.keys.now c.args.server.now) c.args.dce c.args.token.now _ c.args.keys.now c.in_ok-check_state.ensures (record { is = refl }) _ _ c.in_err-read_request.ensures (lent_err _ _ _ c.from_residual-in_err-read_request.ensures.1)

pub returns-in_err-allow : goal.returns-in_err-allow
returns-in_err-allow c =
    let allows = rw (c.deref.ensures ∙ c.in_ok-request.ensures) at (c.in_err-allow.ensures (with_keys c.args.keys.now c.args.server.now) refl (sym c.channel_held.ensures)) in
    not_allowed (with_keys c.args.keys.now c.args.server.now) c.args.dce c.args.token.now _ c.args.keys.now c.in_ok-check_state.ensures (record { is = refl }) c.in_ok-read_request.field-0 _ _ c.in_ok-read_request.ensures allows (lent_err _ _ _ c.from_residual-in_err-allow.ensures.1)

pub returns : goal.returns
returns c =
    let allows = rw (c.deref.ensures ∙ c.in_ok-request.ensures) at (c.in_ok-allow.ensures (with_keys c.args.keys.now c.args.server.now) refl (sym c.channel_held.ensures)) in
    rw c.in_ok-request.ensures (is_allowed (with_keys c.args.keys.now c.args.server.now) c.args.dce c.args.token.now _ c.args.keys.now c.in_ok-check_state.ensures (record { is = refl }) c.in_ok-read_request.field-0 _ c.in_ok-read_request.ensures allows)
