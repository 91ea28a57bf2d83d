use Rattle.krb_c.proofs.SaslLemmas.{answer_fails}
use Rattle.krb_c.proofs.sasl_end.SaslEnd.answer.Goals as goal

pub returns-in-Err-clause-fails : goal.returns-in-Err-clause-fails
returns-in-Err-clause-fails c = rw c.from.ensures (answer_fails _ c.args.offer.now _ c.in-Client.client _ c.in-Err.fault c.in-Client.is c.in-Err.ensures.refused)
