use Rattle.std.proofs.Common.{◌≡◌, arith, rules, sym, ap, ◌∙◌, Some}
use Rattle.krb_script.specs.declared.fields.FieldError.TheVariants.{Bad}
use Rattle.krb_realm.proofs.NameLemmas.{fails-at, one-more-at}
use Rattle.krb_realm.proofs.fields.names.Goals as goal

pub returns-in_err-name : goal.returns-in_err-name
returns-in_err-name c =
    let none = λ (bad : c.in_err-name.field-0.0 ≡ Bad).
    fails-at (λ part. part.now) c.args.parts.now c.loop-part.part-index _ (omega arith) (c.in_err-name.ensures bad) in
    search (rules, none)

pub loop-part-preserved : goal.loop-part-preserved
loop-part-preserved c =
    one-more-at (λ part. part.now) c.args.parts.now c.loop-part.part-index _ c.loop-part.names.items c.in_ok-name.field-0 (omega arith)
    c.loop-part.invariant c.in_ok-name.ensures
    ∙ ap Some (sym c.in_ok-push.ensures.items)
