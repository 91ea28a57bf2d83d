use Rattle.krb_aes.specs.Aes.{aes}
use Rattle.krb_crypto.proofs.OneWayLemmas.{opens-kept}
use Rattle.krb_crypto.proofs.sealing_key.SealingKey.reveal.Goals as goal

pub returns-clause-front : goal.returns-clause-front
returns-clause-front c =
    c.reveal_under.ensures.front (aes c.args.self.now.encryption) (opens-kept c.self.inside c.args.self.now _ c.self.invariant c.self.view_is c.back.ensures).schedule

pub returns-clause-code : goal.returns-clause-code
returns-clause-code c =
    c.reveal_under.ensures.code c.args.self.now.integrity (opens-kept c.self.inside c.args.self.now _ c.self.invariant c.self.view_is c.back.ensures).hmac
