use Rattle.krb_as.proofs.ProxyLengths.{proxied_complete, proxied_below}
use Rattle.krb_as.proofs.sending.proxied_octets.Goals as goal

pub write-requires-clause-complete : goal.write-requires-clause-complete
write-requires-clause-complete c = rw c.in_ok-made.ensures (proxied_complete c.args.realm.now c.args.message.now)

pub write-requires-clause-short : goal.write-requires-clause-short
write-requires-clause-short c = rw c.in_ok-made.ensures (proxied_below c.args.realm.now c.args.message.now c.requires.message c.requires.realm)
