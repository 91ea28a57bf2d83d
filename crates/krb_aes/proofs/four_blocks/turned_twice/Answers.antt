use Rattle.krb_aes.proofs.FourBlockLemmas.{turned_twice_at}
use Rattle.krb_aes.proofs.four_blocks.turned_twice.Goals as goal

pub returns : goal.returns
returns c b few = turned_twice_at c.args.v b few c.fits-v.0
