use Rattle.krb_crypto.specs.SealingPair.{sealing_pair}
use Rattle.krb_crypto.proofs.OneWayLemmas.{seals-derived}
use Rattle.krb_crypto.proofs.sealing.sealed_once.Goals as goal

pub returns-clause-sealed : goal.returns-clause-sealed
returns-clause-sealed c = c.sealed_under.ensures.sealed (sealing_pair c.args.suite c.args.key.now c.args.usage)
    (seals-derived c.args.suite c.args.key.now c.args.usage c.sealing_keys-encryption.result.0 c.sealing_keys-encryption.result.1 _ _ _ _
    c.sealing_keys-encryption.ensures.encryption c.sealing_keys-encryption.ensures.integrity c.as_slice.ensures c.as_slice-2.ensures c.new-schedule.ensures c.new-hmac.ensures)
