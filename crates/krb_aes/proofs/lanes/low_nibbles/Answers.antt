use Rattle.krb_aes.proofs.LookUps.{low_is}
use Rattle.krb_aes.proofs.lanes.low_nibbles.Goals as goal

pub returns : goal.returns
returns c = low_is c.args.v c.fits-v
