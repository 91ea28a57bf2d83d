use Rattle.std.proofs.Common.{refl, sym, ◌∙◌, ap}
use Rattle.std.proofs.lemmas.Bool.{false≢true}
use Rattle.krb_conf.specs.Key as words
use Rattle.krb_conf.proofs.KeyLemmas.{after_prefix-short, after_prefix-begins, after_prefix-differs, cut-is}
use Rattle.krb_conf.proofs.key.after_prefix.Goals as goal

pub returns-in_err-front : goal.returns-in_err-front
returns-in_err-front c =
    rw c.from_residual.ensures (sym (after_prefix-short _ _ c.in_err-front.ensures.cases))

pub returns-then-eq_ignore_ascii_case : goal.returns-then-eq_ignore_ascii_case
returns-then-eq_ignore_ascii_case c =
    let cut = c.in_ok-front.ensures.cases in
    let whole = cut-is _ c.args.text.now c.in_ok-front.front.now c.in_ok-front.rest.now cut.1 cut.2 in
    sym (ap (words.after_prefix c.args.prefix.now) whole ∙ after_prefix-begins c.args.prefix.now c.in_ok-front.front.now c.in_ok-front.rest.now (c.if-eq_ignore_ascii_case.ensures.test.0 refl))

pub returns-else-eq_ignore_ascii_case : goal.returns-else-eq_ignore_ascii_case
returns-else-eq_ignore_ascii_case c =
    let cut = c.in_ok-front.ensures.cases in
    let whole = cut-is _ c.args.text.now c.in_ok-front.front.now c.in_ok-front.rest.now cut.1 cut.2 in
    sym (ap (words.after_prefix c.args.prefix.now) whole ∙ after_prefix-differs c.args.prefix.now c.in_ok-front.front.now c.in_ok-front.rest.now cut.3 (λ t. false≢true (c.if-eq_ignore_ascii_case.ensures.test.1 t)))
