use Rattle.krb_aes.proofs.InjectiveLemmas.{aes_injective}
use Rattle.krb_aes.proofs.laws.different_blocks_stay_different.Goals as goal

pub returns : goal.returns
returns c = aes_injective
