use Rattle.krb_crypto.proofs.SealedLemmas.{sealed_once}
use Rattle.krb_crypto.proofs.laws.one_plain_text_is_sealed.Goals as goal

pub returns : goal.returns
returns c = sealed_once
