use Rattle.krb_aes.proofs.MixedLanes.{mixed_lanes_is}
use Rattle.krb_aes.proofs.lanes.mixed.Goals as goal

pub returns : goal.returns
returns c = mixed_lanes_is _ c.args.v c.fits-v c.doubled-doubles.ensures
