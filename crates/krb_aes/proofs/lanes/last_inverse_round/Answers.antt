use Rattle.krb_aes.proofs.InverseRounds.{open_round, open_block}
use Rattle.krb_aes.proofs.lanes.last_inverse_round.Goals as goal

pub returns-clause-back : goal.returns-clause-back
returns-clause-back c s k bk ek es = open_round c.args.v _ c.args.key s k c.fits-v bk c.pair_sums.ensures ek es

pub returns-clause-block : goal.returns-clause-block
returns-clause-block c = open_block c.args.v _ c.args.key c.fits-v c.fits-key c.pair_sums.ensures
