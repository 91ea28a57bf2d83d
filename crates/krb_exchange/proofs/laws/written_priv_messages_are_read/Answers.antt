use Rattle.krb_exchange.proofs.PrivMessages.{read_back}
use Rattle.krb_exchange.proofs.laws.written_priv_messages_are_read.Goals as goal

pub returns : goal.returns
returns c = read_back
