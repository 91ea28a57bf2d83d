use Rattle.krb_aes.proofs.FourBlockLemmas.{low_is}
use Rattle.krb_aes.proofs.four_blocks.low_nibbles.Goals as goal

pub returns : goal.returns
returns c = low_is c.args.v c.fits-v
