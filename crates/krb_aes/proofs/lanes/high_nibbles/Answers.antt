use Rattle.krb_aes.proofs.LookUps.{high_is}
use Rattle.krb_aes.proofs.lanes.high_nibbles.Goals as goal

pub returns : goal.returns
returns c = high_is c.args.v c.fits-v
