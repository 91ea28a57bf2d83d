use Rattle.krb_exchange.proofs.PrivMessages.{same_message}
use Rattle.krb_exchange.proofs.laws.one_priv_message.Goals as goal

pub returns : goal.returns
returns c = same_message
