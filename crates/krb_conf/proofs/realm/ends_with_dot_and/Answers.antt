use Rattle.std.proofs.Common.{◌∙◌, ◌+◌}
use Rattle.krb_conf.proofs.RealmLemmas.{is_same_text-rest, ends_with_text-dot}
use Rattle.krb_conf.proofs.realm.ends_with_dot_and.Goals as goal

pub returns-then-text-start-eq46 : goal.returns-then-text-start-eq46
returns-then-text-start-eq46 c =
    is_same_text-rest c.eq_ignore_ascii_case.result c.args.text.now c.args.ending.now (c.in-Some.start + 1) c.eq_ignore_ascii_case.ensures.test
    ∙ ends_with_text-dot c.args.text.now c.args.ending.now c.in-Some.start c.in-Some.ensures.0 c.in-Some.ensures.1 c.if-text-start-eq46.true
