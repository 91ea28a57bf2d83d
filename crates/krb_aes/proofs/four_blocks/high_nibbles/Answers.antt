use Rattle.krb_aes.proofs.FourBlockLemmas.{high_is}
use Rattle.krb_aes.proofs.four_blocks.high_nibbles.Goals as goal

pub returns : goal.returns
returns c = high_is c.args.v c.fits-v
