use Rattle.krb_c.proofs.SaslLemmas.{offer_fails}
use Rattle.krb_c.proofs.sasl_end.SaslEnd.offer.Goals as goal

pub returns-in-Err-clause-fails : goal.returns-in-Err-clause-fails
returns-in-Err-clause-fails c = rw c.from.ensures (offer_fails _ _ c.in-Server.server _ c.in-Err.fault c.in-Server.is c.in-Err.ensures.refused)
