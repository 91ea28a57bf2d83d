use Rattle.krb_laws_kdc.proofs.RepLemmas.{grants_first}
use Rattle.krb_laws_kdc.proofs.laws.first_replies_are_honest.Goals as goal

pub returns : goal.returns
returns c = λ suite realm nonce key used draw grant asker body moment d g is fits octets short fresh.
    grants_first suite realm draw d nonce grant g asker used key body moment is fits octets short fresh
