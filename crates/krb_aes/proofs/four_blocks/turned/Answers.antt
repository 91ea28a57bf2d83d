use Rattle.krb_aes.proofs.FourBlockLemmas.{turned_at}
use Rattle.krb_aes.proofs.four_blocks.turned.Goals as goal

pub returns : goal.returns
returns c b few = turned_at c.args.v b few c.fits-v.0
