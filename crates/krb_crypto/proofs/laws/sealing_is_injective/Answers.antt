use Rattle.krb_crypto.proofs.SealedLemmas.{sealed_injective}
use Rattle.krb_crypto.proofs.laws.sealing_is_injective.Goals as goal

pub returns : goal.returns
returns c = sealed_injective
