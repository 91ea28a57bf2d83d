use Rattle.krb_as.proofs.Realms.{short_realm}
use Rattle.krb_tgs.proofs.tgs.ask_tgs.Goals as goal

pub sent_tgs_request-requires-clause-realm : goal.sent_tgs_request-requires-clause-realm
sent_tgs_request-requires-clause-realm c = short_realm _ _ _ _ c.in_ok-kdc.ensures c.requires.realm
