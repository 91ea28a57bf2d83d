use Rattle.krb_aes.proofs.InjectiveLemmas.{IsBlock-aes}
use Rattle.krb_aes.proofs.laws.a_block_becomes_a_block.Goals as goal

pub returns : goal.returns
returns c = IsBlock-aes
