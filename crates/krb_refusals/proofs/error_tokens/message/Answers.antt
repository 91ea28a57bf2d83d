use Rattle.std.proofs.Common.{◌≡◌, ℕ, ◌≤◌, ◌^◌, List, length, ap, ◌∙◌, arith}
use Rattle.std.proofs.lemmas.Result.{IfOk-weaker}
use Rattle.krb_der.specs.Layout.{spelling}
use Rattle.krb_exchange.specs.declared.krb_error.KrbError.{KrbError}
use Rattle.krb_exchange.specs.Layouts.{krb_error_layout}
use Rattle.krb_refusals.specs.ErrorTokens.{message}
use Rattle.krb_refusals.proofs.Lengths.{error_fits}
use Rattle.krb_refusals.proofs.error_tokens.message.Goals as goal

pub write-requires-clause-complete : goal.write-requires-clause-complete
write-requires-clause-complete c =
    rw (c.deref.ensures ∙ c.in_ok-error.ensures ∙ c.in_ok-krb_error.ensures) (error_fits c.args.code c.args.sname c.args.realm c.args.moment c.requires.sname c.requires.components c.requires.realm).complete

pub write-requires-clause-short : goal.write-requires-clause-short
write-requires-clause-short c =
    let k = (error_fits c.args.code c.args.sname c.args.realm c.args.moment c.requires.sname c.requires.components c.requires.realm).short in
    rw (c.deref.ensures ∙ c.in_ok-error.ensures ∙ c.in_ok-krb_error.ensures) (omega (arith, k))

pub returns-clause-message : goal.returns-clause-message
unfolding message
returns-clause-message c =
    IfOk-weaker c.write.result _ (λ (octets : List ℕ). octets ≡ message c.args.code c.args.sname c.args.realm c.args.moment)
    (λ octets spells. spells.is ∙ ap (λ (e : KrbError). spelling krb_error_layout e) (c.deref.ensures ∙ c.in_ok-error.ensures ∙ c.in_ok-krb_error.ensures)) c.write.ensures

pub returns-clause-short : goal.returns-clause-short
returns-clause-short c =
    let k = (error_fits c.args.code c.args.sname c.args.realm c.args.moment c.requires.sname c.requires.components c.requires.realm).short in
    IfOk-weaker c.write.result _ (λ (octets : List ℕ). length octets ≤ 2 ^ 20) (λ octets spells. rw (spells.is, c.deref.ensures ∙ c.in_ok-error.ensures ∙ c.in_ok-krb_error.ensures) k) c.write.ensures
