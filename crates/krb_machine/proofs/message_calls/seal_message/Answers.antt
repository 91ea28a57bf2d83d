use Rattle.std.proofs.Common.{ℕ, List, Ok, refl, subst}
use Rattle.std.proofs.lemmas.Result.{IfOk-weaker}
use Rattle.sspi_core.specs.Buffer.{Buffer}
use Rattle.sspi_core.specs.declared.error.Place.TheVariants.{Elsewhere}
use Rattle.krb_context.specs.Refusals.{Refuses}
use Rattle.krb_context.specs.Wraps.{Wraps}
use Rattle.krb_machine.proofs.MessageLemmas.{seals-refused}
use Rattle.krb_machine.proofs.message_calls.seal_message.Goals as goal

pub returns-in-Ok-clause-seals : goal.returns-in-Ok-clause-seals
returns-in-Ok-clause-seals c =
    let made = c.encrypt_message.new.message in
    let context = c.args.context.now in
    let P : List Buffer → Type 0 = λ m. Wraps context c.confounder_of.result m (Ok made) in
    let Q : List ℕ → Type 0 = λ k. Wraps context k c.args.message.now (Ok made) in
    let wraps = subst Q c.confounder_of.ensures (subst P c.in_ok-sealed.ensures c.in-Ok.ensures.wrapped.1) in
    record { answer = Ok made; wraps = wraps; made = (refl, c.in-Ok.ensures.wrapped.2) }

pub returns-in-Err-clause-seals : goal.returns-in-Err-clause-seals
returns-in-Err-clause-seals c =
    let context = c.args.context.now in
    let P : List Buffer → Type 0 = λ m. Refuses Elsewhere (Wraps context c.confounder_of.result m) c.in-Err.error in
    let Q : List ℕ → Type 0 = λ k. Refuses Elsewhere (Wraps context k c.args.message.now) c.in-Err.error in
    let refuses = subst Q c.confounder_of.ensures (subst P c.in_ok-sealed.ensures c.in-Err.ensures.refused) in
    IfOk-weaker c.refused.result _ _
    (λ reply told. seals-refused context c.args.random.now c.args.message.now c.in-Err.error reply c.encrypt_message.new.self refuses told.1 told.0 c.in-Err.ensures.stays.1)
    c.refused.ensures.refused
