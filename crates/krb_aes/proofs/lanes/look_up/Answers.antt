use Rattle.krb_aes.proofs.LookUps.{places_ok, looked_up}
use Rattle.krb_aes.proofs.lanes.look_up.Goals as goal

pub swizzle : goal.swizzle
swizzle c = places_ok c.args.at c.fits-at

pub returns : goal.returns
returns c = looked_up c.args.table c.args.at c.fits-at
