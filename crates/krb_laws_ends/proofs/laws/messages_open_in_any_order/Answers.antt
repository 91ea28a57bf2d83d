use Rattle.krb_laws_ends.proofs.OrderLemmas.{opened_in_time}
use Rattle.krb_laws_ends.proofs.laws.messages_open_in_any_order.Goals as goal

pub returns : goal.returns
returns c = opened_in_time
