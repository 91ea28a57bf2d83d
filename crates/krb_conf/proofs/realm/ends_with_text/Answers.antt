use Rattle.std.proofs.Common.{◌∙◌, ap, drop}
use Rattle.krb_conf.specs.Key.{is_same_text}
use Rattle.krb_conf.proofs.RealmLemmas.{is_same_text-rest}
use Rattle.krb_conf.proofs.realm.ends_with_text.Goals as goal

pub returns : goal.returns
returns c =
    is_same_text-rest c.eq_ignore_ascii_case.result c.args.text.now c.args.ending.now c.in-Some.start c.eq_ignore_ascii_case.ensures.test
    ∙ ap (λ n. is_same_text (drop n c.args.text.now) c.args.ending.now) c.in-Some.ensures.1
