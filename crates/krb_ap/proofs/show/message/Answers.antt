use Rattle.krb_ap.proofs.ShownLengths.{written_short}
use Rattle.krb_ap.proofs.show.message.Goals as goal

pub returns-clause-short : goal.returns-clause-short
returns-clause-short c = written_short _ c.write.result c.in_ok-request.ensures.within c.write.ensures
