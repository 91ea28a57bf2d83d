use Rattle.krb_crypto.proofs.OneWayLemmas.{seals-kept}
use Rattle.krb_crypto.proofs.sealing_key.SealingKey.seal_in_place.Goals as goal

pub returns : goal.returns
returns c = c.seal_under.ensures c.args.self.now (seals-kept c.self.inside c.args.self.now _ c.self.invariant c.self.view_is c.forward.ensures)
