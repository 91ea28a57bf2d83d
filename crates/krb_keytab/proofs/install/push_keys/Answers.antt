use Rattle.krb_keytab.proofs.Installed.{named_keys}
use Rattle.krb_keytab.proofs.install.push_keys.Goals as goal

pub returns : goal.returns
returns c =
    let keys = rw c.as_slice.ensures.keys at c.push_named.ensures in
    named_keys c.args.realm.now c.args.entries.now c.in_ok-names.names.keys c.in_ok-keys.keys c.push_named.result c.args.out.now.items c.push_named.new.out.items c.in_ok-names.ensures c.in_ok-keys.ensures keys
