use Rattle.std.proofs.Common.{None, Some, sym, ◌∙◌, ap, arith}
use Rattle.std.proofs.lemmas.Str.{IsCharBoundary-after_ascii}
use Rattle.std.proofs.lemmas.Str.Pattern.{rfind_char}
use Rattle.krb_conf.proofs.RealmLemmas.{after_last-none, after_last-some}
use Rattle.krb_conf.proofs.realm.after_last_at.Goals as goal

pub returns-in_err-at : goal.returns-in_err-at
returns-in_err-at c =
    let absent = rfind_char 64 c.args.text.now None c.in_err-at.ensures.cases (omega arith) in
    rw c.from_residual.ensures (sym (after_last-none 64 c.args.text.now absent))

pub range_from-requires : goal.range_from-requires
range_from-requires c =
    let last = rfind_char 64 c.args.text.now (Some c.in_ok-at.at) c.in_ok-at.ensures.cases (omega arith) in
    λ _. IsCharBoundary-after_ascii c.args.text.now c.in_ok-at.at c.utf8.text last.0 (omega (arith, last.1))

pub returns : goal.returns
returns c =
    let last = rfind_char 64 c.args.text.now (Some c.in_ok-at.at) c.in_ok-at.ensures.cases (omega arith) in
    ap Some c.range_from.ensures.value ∙ sym (after_last-some 64 c.args.text.now c.in_ok-at.at last.0 last.1 last.2)
