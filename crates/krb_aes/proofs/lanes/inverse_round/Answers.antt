use Rattle.krb_aes.proofs.InverseRounds.{back_round, back_block}
use Rattle.krb_aes.proofs.lanes.inverse_round.Goals as goal

pub returns-clause-back : goal.returns-clause-back
returns-clause-back c s k bs bk ek held =
    back_round c.args.v _ _ _ _ _ c.args.key s k c.fits-v bs bk c.unshifted-moved.ensures c.pair_sums.ensures c.pair_sums-2.ensures c.pair_sums-3.ensures c.pair_sums-4.ensures ek held

pub returns-clause-block : goal.returns-clause-block
returns-clause-block c =
    back_block c.args.v _ _ _ _ _ c.args.key c.fits-v c.fits-key c.unshifted-moved.ensures c.pair_sums.ensures c.pair_sums-2.ensures c.pair_sums-3.ensures c.pair_sums-4.ensures
