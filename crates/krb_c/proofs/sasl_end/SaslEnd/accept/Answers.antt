use Rattle.krb_c.proofs.SaslLemmas.{name_fails}
use Rattle.krb_c.proofs.sasl_end.SaslEnd.accept.Goals as goal

pub returns-in-Err-clause-fails : goal.returns-in-Err-clause-fails
returns-in-Err-clause-fails c = rw c.from.ensures (name_fails _ c.args.token.now _ c.in-Server.server _ c.in-Err.fault c.in-Server.is c.in-Err.ensures.refused)
