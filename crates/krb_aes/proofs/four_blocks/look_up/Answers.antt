use Rattle.krb_aes.proofs.FourBlockLemmas.{places_ok, looked_up}
use Rattle.krb_aes.proofs.four_blocks.look_up.Goals as goal

pub swizzle : goal.swizzle
swizzle c = places_ok c.args.at c.fits-at

pub returns : goal.returns
returns c = looked_up c.args.table c.four_copies.result c.args.at c.four_copies.ensures.size c.four_copies.ensures.copies c.fits-at
