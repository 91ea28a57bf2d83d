use Rattle.krb_laws_ends.proofs.OrderLemmas.{opened_in_order}
use Rattle.krb_laws_ends.proofs.laws.messages_open_in_their_order.Goals as goal

pub returns : goal.returns
returns c = opened_in_order
