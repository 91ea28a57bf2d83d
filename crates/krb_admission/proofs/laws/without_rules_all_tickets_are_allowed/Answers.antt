use Rattle.std.proofs.Common.{◌≡◌, true, None, ap, List, ℕ, Option}
use Rattle.std.specs.Prelude.{if◌then◌else◌}
use Rattle.krb_context.specs.Rules.{has_rule, bound_to_its_channel}
use Rattle.krb_context.specs.declared.rules.Rules.{Rules}
use Rattle.krb_admission.specs.Allowed.{Allows, is_validated, is_transit_checked, channel_held, tells_bindings, is_bound}
use Rattle.sspi_core.specs.declared.cause.Cause.TheVariants.{NotYet, Transited, Checksum, Bindings}
use Rattle.sspi_core.proofs.Chain.{follows, holds_true}
use Rattle.krb_admission.proofs.laws.without_rules_all_tickets_are_allowed.Goals as goal

pub returns : goal.returns
unfolding Allows
returns c = λ server request none.
    let valid : is_validated server.rules request.part ≡ true = ap (λ (r : Rules). is_validated r request.part) none in
    let checked : is_transit_checked server.rules request.part ≡ true = ap (λ (r : Rules). is_transit_checked r request.part) none in
    let held : channel_held server ≡ None = ap (λ (r : Rules). if has_rule r bound_to_its_channel then server.channel else None) none in
    let told : tells_bindings (channel_held server) request.authenticator.cksum ≡ true = ap (λ (o : Option (List ℕ)). tells_bindings o request.authenticator.cksum) held in
    let bound : is_bound (channel_held server) request.authenticator.cksum ≡ true = ap (λ (o : Option (List ℕ)). is_bound o request.authenticator.cksum) held in
    follows _ _ tt _ (holds_true NotYet (is_validated server.rules request.part) valid)
    (follows _ _ tt _ (holds_true Transited (is_transit_checked server.rules request.part) checked)
    (follows _ _ tt _ (holds_true Checksum (tells_bindings (channel_held server) request.authenticator.cksum) told)
    (holds_true Bindings (is_bound (channel_held server) request.authenticator.cksum) bound)))
