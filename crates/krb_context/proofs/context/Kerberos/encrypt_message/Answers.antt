use Rattle.std.proofs.Common.{rules, ◌≡◌, length, refl, sym, ap, ◌∙◌}
use Rattle.std.specs.Prelude.{Ok}
use Rattle.krb_crypto.specs.declared.suite.CipherSuite.{CipherSuite}
use Rattle.krb_crypto.specs.Suite.{key_size}
use Rattle.sspi_core.specs.declared.error.Place.TheVariants.{Elsewhere}
use Rattle.sspi_core.proofs.Chain.{stops, follows, answers}
use Rattle.krb_context.specs.Wraps.{Wraps, wrapped}
use Rattle.krb_context.proofs.ChainLemmas.{handed_on}
use Rattle.krb_context.proofs.ReadyLemmas.{is_ready}
use Rattle.krb_context.proofs.context.Kerberos.encrypt_message.Goals as goal

pub take-requires : goal.take-requires
take-requires c =
    let r = is_ready _ _ _ _ c.in_ok-key.ensures in
    ap length c.as_slice.ensures ∙ r.key_length ∙ ap (λ (s : CipherSuite). key_size s) (sym c.suite.ensures)

pub seal_message-sealed-requires-clause-plain : goal.seal_message-sealed-requires-clause-plain
seal_message-sealed-requires-clause-plain c = let r = is_ready _ _ _ _ c.in_ok-key.ensures in r.plain

pub seal_message-sealed-requires-clause-token : goal.seal_message-sealed-requires-clause-token
seal_message-sealed-requires-clause-token c = let r = is_ready _ _ _ _ c.in_ok-key.ensures in r.token

pub seal_message-sealed-requires-clause-room : goal.seal_message-sealed-requires-clause-room
seal_message-sealed-requires-clause-room c = let r = is_ready _ _ _ _ c.in_ok-key.ensures in r.room

pub returns-in_err-key-clause-refused : goal.returns-in_err-key-clause-refused
unfolding Wraps
returns-in_err-key-clause-refused c =
    handed_on Elsewhere (Wraps c.args.self.now c.args.confounder c.args.message.now) _ c.from_residual.result
    (stops _ _ _ _ (answers _ _ c.in_err-key.ensures) refl) c.from_residual.ensures.1

pub returns-clause-wrapped : goal.returns-clause-wrapped
unfolding Wraps
returns-clause-wrapped c =
    let made : c.seal_message-sealed.new.message ≡ wrapped c.args.self.now c.in_ok-key.key.now c.args.confounder c.args.message.now = search rules in
    (refl, follows _ _ _ _ c.in_ok-key.ensures (record { is = ap Ok made }), refl)
