use Rattle.krb_laws_ends.proofs.OrderLemmas.{opened_where_lost}
use Rattle.krb_laws_ends.proofs.laws.messages_open_where_others_are_lost.Goals as goal

pub returns : goal.returns
returns c = opened_where_lost
