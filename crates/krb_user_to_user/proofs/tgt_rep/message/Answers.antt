use Rattle.krb_user_to_user.proofs.Lengths.{made_fits, made_below, written_short}
use Rattle.krb_user_to_user.proofs.tgt_rep.message.Goals as goal

pub write-requires-clause-complete : goal.write-requires-clause-complete
write-requires-clause-complete c = (made_fits _ _ c.in_ok-rep.ensures c.requires).complete

pub write-requires-clause-short : goal.write-requires-clause-short
write-requires-clause-short c = made_below _ _ c.in_ok-rep.ensures c.requires

pub returns-clause-short : goal.returns-clause-short
returns-clause-short c = written_short _ _ c.write.result c.in_ok-rep.ensures c.requires c.write.ensures
