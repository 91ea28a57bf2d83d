use Rattle.std.proofs.Common.{◌∙◌, ap, ◌++◌}
use Rattle.std.specs.Option.{option_to_list}
use Rattle.krb_keytab.specs.RealmKeys.{LentName, pair_at}
use Rattle.krb_keytab.proofs.Appends.{piece_more}
use Rattle.krb_keytab.proofs.install.push_named.Goals as goal

pub loop-name-preserved : goal.loop-name-preserved
loop-name-preserved c =
    c.in_ok-push_key.ensures ∙ ap (λ out. out ++ option_to_list (pair_at c.args.keys.now c.name-item.result)) c.loop-name.invariant
    ∙ piece_more (λ (name : LentName). option_to_list (pair_at c.args.keys.now name)) c.args.out.now.items c.args.names.now c.loop-name.name-index c.name-item.result c.loop-name-test.true c.name-item.is
