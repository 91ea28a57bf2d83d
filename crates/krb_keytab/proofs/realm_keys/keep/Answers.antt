use Rattle.std.proofs.Common.{sym, ◌∙◌, ap, Option}
use Rattle.std.specs.Prelude.{option_copied}
use Rattle.std.specs.Borrow.{Bor}
use Rattle.krb_keytab.specs.declared.entry.KeytabEntry.{KeytabEntry}
use Rattle.krb_keytab.specs.Finding.{greater}
use Rattle.krb_keytab.proofs.RealmKeys.{left_out, put_in}
use Rattle.krb_keytab.proofs.realm_keys.keep.Goals as goal

pub returns-in_ok-insert : goal.returns-in_ok-insert
returns-in_ok-insert c =
    put_in c.args.realm.now c.args.suite c.args.entry.now c.args.found.now c.insert.new.self c.greater-best.result
    (sym c.is_of_suite.ensures ∙ c.if-is_of_suite.true)
    (c.greater-best.ensures ∙ ap (λ (best : Option (Bor KeytabEntry)). greater (option_copied best) c.args.entry.now) (c.copied.ensures ∙ c.get.ensures.value))
    c.in_ok-insert.ensures.updates.0

pub returns-else-is_of_suite : goal.returns-else-is_of_suite
returns-else-is_of_suite c = left_out c.args.realm.now c.args.suite c.args.entry.now c.args.found.now (sym c.is_of_suite.ensures ∙ c.if-is_of_suite.false)
