use Rattle.std.proofs.Common.{◌∙◌, ap, List, Option}
use Rattle.std.specs.Prelude.{option_map}
use Rattle.std.specs.Borrow.{Bor}
use Rattle.std.specs.Map.{lookup}
use Rattle.krb_keytab.specs.declared.entry.KeytabEntry.{KeytabEntry}
use Rattle.krb_keytab.specs.Finding.{is_wanted, greatest}
use Rattle.krb_keytab.specs.RealmKeys.{LentName, same_name, asked, greatest_with}
use Rattle.krb_keytab.proofs.RealmKeys.{greatest_more}
use Rattle.krb_keytab.proofs.realm_keys.greatest_entries.Goals as goal

pub loop-entry-init : goal.loop-entry-init
unfolding greatest
loop-entry-init c = λ name. ap (λ (entries : List (LentName × Bor KeytabEntry)). option_map (λ (entry : Bor KeytabEntry). entry.now) (lookup (same_name name) entries)) c.new-found.ensures.empty

pub loop-entry-preserved : goal.loop-entry-preserved
loop-entry-preserved c = λ name.
    let passes = is_wanted (asked c.args.realm.now c.args.suite name.now) in
    c.in_ok-keep.ensures name ∙ ap (λ (best : Option KeytabEntry). greatest_with passes best c.entry-item.result) (c.loop-entry.invariant name)
    ∙ greatest_more passes c.args.entries.now c.loop-entry.entry-index c.entry-item.result c.loop-entry-test.true c.entry-item.is
