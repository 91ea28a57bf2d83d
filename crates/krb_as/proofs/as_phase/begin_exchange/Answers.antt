use Rattle.sspi_core.proofs.Chain.{stops}
use Rattle.krb_as.specs.AsPhases.{BeginsExchange}
use Rattle.krb_as.proofs.Realms.{short_realm}
use Rattle.krb_as.proofs.as_phase.begin_exchange.Goals as goal

pub returns-in_err-kdc-clause-step : goal.returns-in_err-kdc-clause-step
unfolding BeginsExchange
returns-in_err-kdc-clause-step c = stops _ _ _ _ c.in_err-kdc.ensures c.from_residual.ensures.1

pub sent_first-requires-clause-realm : goal.sent_first-requires-clause-realm
sent_first-requires-clause-realm c = short_realm _ _ _ _ c.in_ok-kdc.ensures c.requires.realm

pub returns-clause-waits : goal.returns-clause-waits
returns-clause-waits c = c.sent_first.ensures.waits c.args.asker.now
