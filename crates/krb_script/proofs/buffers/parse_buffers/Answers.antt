use Rattle.std.proofs.Common.{◌≡◌, arith, rules, sym, ap, ◌∙◌, Some}
use Rattle.krb_script.specs.declared.fields.FieldError.TheVariants.{Bad}
use Rattle.krb_script.proofs.BufferLemmas.{fails-at, one-more-at}
use Rattle.krb_script.proofs.buffers.parse_buffers.Goals as goal

pub returns-in_err-parse_buffer : goal.returns-in_err-parse_buffer
returns-in_err-parse_buffer c =
    let none = λ (bad : c.in_err-parse_buffer.field-0.0 ≡ Bad).
    fails-at (λ field. field.now) c.args.fields.now c.loop-field.field-index _ (omega arith) (c.in_err-parse_buffer.ensures bad) in
    search (rules, none)

pub loop-field-preserved : goal.loop-field-preserved
loop-field-preserved c =
    one-more-at (λ field. field.now) c.args.fields.now c.loop-field.field-index _ c.loop-field.buffers.items c.in_ok-parse_buffer.field-0 (omega arith)
    c.loop-field.invariant c.in_ok-parse_buffer.ensures
    ∙ ap Some (sym c.in_ok-push.ensures.items)
