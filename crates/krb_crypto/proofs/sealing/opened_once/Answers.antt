use Rattle.krb_crypto.specs.SealingPair.{sealing_pair}
use Rattle.krb_crypto.proofs.OneWayLemmas.{opens-derived}
use Rattle.krb_crypto.proofs.sealing.opened_once.Goals as goal

pub returns-clause-opened : goal.returns-clause-opened
returns-clause-opened c = c.opened_under.ensures.opened (sealing_pair c.args.suite c.args.key.now c.args.usage)
    (opens-derived c.args.suite c.args.key.now c.args.usage c.sealing_keys-encryption.result.0 c.sealing_keys-encryption.result.1 _ _ _ _
    c.sealing_keys-encryption.ensures.encryption c.sealing_keys-encryption.ensures.integrity c.as_slice.ensures c.as_slice-2.ensures c.new-schedule.ensures c.new-hmac.ensures)

pub returns-clause-altered : goal.returns-clause-altered
returns-clause-altered c = λ e. (
  c.opened_under.ensures.altered_long e,
  c.opened_under.ensures.altered (sealing_pair c.args.suite c.args.key.now c.args.usage)
      (opens-derived c.args.suite c.args.key.now c.args.usage c.sealing_keys-encryption.result.0 c.sealing_keys-encryption.result.1 _ _ _ _
      c.sealing_keys-encryption.ensures.encryption c.sealing_keys-encryption.ensures.integrity c.as_slice.ensures c.as_slice-2.ensures c.new-schedule.ensures c.new-hmac.ensures)
      e,
)
