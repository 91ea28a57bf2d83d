use Rattle.std.proofs.Common.{◌∙◌}
use Rattle.krb_aes.specs.Tower.{pair_sum}
use Rattle.krb_aes.specs.Octets.{block_at}
use Rattle.krb_aes.specs.declared.tables.TheConstants.{BACK_U, BACK_T, BACK_FOUR_U, BACK_FOUR_T}
use Rattle.krb_aes.proofs.MixedBack.{mixed_round}
use Rattle.krb_aes.proofs.FourBlockLemmas.{mixed_at, block-map, block_fits}
use Rattle.krb_aes.proofs.four_blocks.mixed_back.Goals as goal

pub returns : goal.returns
returns c b few s k bs bk ek held =
    let v = c.args.v in
    let moved = c.args.moved in
    mixed_round (block_at b v) (block_at b moved) _ _ (block_at b c.args.key) s k (block_fits v b few c.fits-v) (block_fits c.args.key b few c.fits-key).0 bs bk (c.requires.blocks b few)
    (block-map (pair_sum BACK_U BACK_T) moved _ b c.pair_sums.ensures) (block-map (pair_sum BACK_FOUR_U BACK_FOUR_T) moved _ b c.pair_sums-fours.ensures)
    ek
    (held ∙ mixed_at b c.pair_sums.result c.pair_sums-fours.result c.turned_twice.result c.turned.result c.turned_twice-2.result c.doubled_back.result c.args.key
    (c.turned_twice.ensures b few) (c.turned.ensures b few) (c.turned_twice-2.ensures b few) c.doubled_back.ensures)
