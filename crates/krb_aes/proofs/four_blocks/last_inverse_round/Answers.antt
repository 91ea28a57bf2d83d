use Rattle.std.proofs.Common.{◌∙◌, ap, sym, subst, length, List, ℕ}
use Rattle.std.proofs.lemmas.List.{length-map}
use Rattle.krb_aes.specs.Round.{xor_octets}
use Rattle.krb_aes.specs.Octets.{IsBlock, block_at}
use Rattle.krb_aes.specs.Tower.{pair_sum}
use Rattle.krb_aes.specs.declared.tables.TheConstants.{INVERTED_U, INVERTED_T}
use Rattle.krb_aes.proofs.InverseRounds.{open_round, open_block}
use Rattle.krb_aes.proofs.FourBlockLemmas.{open_at, block-map, block_fits}
use Rattle.krb_aes.proofs.four_blocks.last_inverse_round.Goals as goal

pub returns-clause-back : goal.returns-clause-back
returns-clause-back c b few s k bk ek es =
    let v = c.args.v in
    open_round (block_at b v) _ (block_at b c.args.key) s k (block_fits v b few c.fits-v) bk (block-map (pair_sum INVERTED_U INVERTED_T) v _ b c.pair_sums.ensures) ek
    (es ∙ ap (λ (l : List ℕ). xor_octets l k) (open_at _ c.args.key b few (ap length c.pair_sums.ensures ∙ length-map v _ ∙ c.fits-v.0) c.fits-key.0))

pub returns-clause-blocks : goal.returns-clause-blocks
returns-clause-blocks c b few =
    let v = c.args.v in
    let e = open_at _ c.args.key b few (ap length c.pair_sums.ensures ∙ length-map v _ ∙ c.fits-v.0) c.fits-key.0 in
    subst IsBlock (sym e) (open_block (block_at b v) _ (block_at b c.args.key) (block_fits v b few c.fits-v) (block_fits c.args.key b few c.fits-key) (block-map (pair_sum INVERTED_U INVERTED_T) v _ b c.pair_sums.ensures))
