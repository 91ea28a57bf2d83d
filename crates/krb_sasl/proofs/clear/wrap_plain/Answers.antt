use Rattle.krb_context.specs.ClearWraps.{WrapsClear}
use Rattle.krb_sasl.proofs.ContextLemmas.{tells_error, tells_value}
use Rattle.krb_sasl.proofs.clear.wrap_plain.Goals as goal

pub returns-in_err-wrap_in_clear-clause-wrapped : goal.returns-in_err-wrap_in_clear-clause-wrapped
returns-in_err-wrap_in_clear-clause-wrapped c =
    let checks = WrapsClear c.args.context.now c.args.plain.now in
    tells_error checks checks c.in_err-wrap_in_clear.field-0.0 _ c.in_err-wrap_in_clear.ensures.refused c.from_residual.ensures.1 (λ cause h. h)

pub returns-clause-wrapped : goal.returns-clause-wrapped
returns-clause-wrapped c = tells_value (WrapsClear c.args.context.now c.args.plain.now) _ c.in_ok-wrap_in_clear.ensures.wrapped.0
