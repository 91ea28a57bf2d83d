use Rattle.krb_crypto.proofs.OneWayLemmas.{opens-kept}
use Rattle.krb_crypto.proofs.sealing_key.SealingKey.open.Goals as goal

pub returns-clause-opened : goal.returns-clause-opened
returns-clause-opened c = c.opened_under.ensures.opened c.args.self.now (opens-kept c.self.inside c.args.self.now _ c.self.invariant c.self.view_is c.back.ensures)

pub returns-clause-altered : goal.returns-clause-altered
returns-clause-altered c = λ e. (
  c.opened_under.ensures.altered_long e,
  c.opened_under.ensures.altered c.args.self.now (opens-kept c.self.inside c.args.self.now _ c.self.invariant c.self.view_is c.back.ensures) e,
)
