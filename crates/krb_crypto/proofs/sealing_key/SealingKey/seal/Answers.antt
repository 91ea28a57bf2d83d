use Rattle.krb_crypto.proofs.OneWayLemmas.{seals-kept}
use Rattle.krb_crypto.proofs.sealing_key.SealingKey.seal.Goals as goal

pub returns-clause-sealed : goal.returns-clause-sealed
returns-clause-sealed c = c.sealed_under.ensures.sealed c.args.self.now (seals-kept c.self.inside c.args.self.now _ c.self.invariant c.self.view_is c.forward.ensures)
