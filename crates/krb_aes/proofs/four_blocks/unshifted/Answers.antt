use Rattle.krb_aes.proofs.FourBlockLemmas.{unshifted_at}
use Rattle.krb_aes.proofs.four_blocks.unshifted.Goals as goal

pub returns-clause-blocks : goal.returns-clause-blocks
returns-clause-blocks c b few = unshifted_at c.args.v b few c.fits-v.0
