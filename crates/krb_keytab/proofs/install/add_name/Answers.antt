use Rattle.std.proofs.Common.{sym, ◌∙◌, refl}
use Rattle.krb_keytab.proofs.Installed.{named}
use Rattle.krb_keytab.proofs.install.add_name.Goals as goal

pub returns-in_ok-insert : goal.returns-in_ok-insert
returns-in_ok-insert c =
    named c.args.realm.now c.args.names.now.keys c.insert.new.self.keys c.args.entry.now _ refl (sym c.eq.ensures ∙ c.if-eq.true) c.in_ok-insert.ensures.keys
