use Rattle.std.proofs.Common.{ℕ, ◌-◌, ap, ap₂, ◌∙◌, arith}
use lib.Lanes.{zip2}
use lib.Bits.{bit_xor}
use Rattle.krb_aes.specs.Round.{round_key}
use Rattle.krb_aes.specs.Tower.{turned}
use Rattle.krb_aes.proofs.InjectiveLemmas.{IsBlock-column_octets}
use Rattle.krb_aes.specs.Octets.{block_at}
use Rattle.krb_aes.proofs.ForwardChain.{IsBlock-vector}
use Rattle.krb_aes.proofs.FourBlockLemmas.{block_fits, block-map, block-xor}
use Rattle.krb_aes.proofs.InverseChain.{affine_back_octets-xor, inverse_start, inverse_step, inverse_end, decryption_key_as}
use Rattle.krb_aes.proofs.decryption.decrypted_eight.Goals as goal

pub loop-round-init : goal.loop-round-init
loop-round-init c = (
  λ i few words are b hb held.
      let v = c.args.blocks in
      let block = IsBlock-vector (block_at i v) (block_fits v i few c.fits-blocks) in
      inverse_start words b (block_at i v) _ c.args.rounds hb block
      (block-xor i _ _ ∙ ap₂ (zip2 bit_xor) (block-map _ v _ i c.linear_back.ensures) (c.four_copies-start.ensures.copies i few ∙ are.first)
      ∙ affine_back_octets-xor (block_at i v) (round_key words c.args.rounds) block.octets.below (IsBlock-column_octets _).octets.below)
      held,
  λ i few words are b hb held.
      let v = c.args.others in
      let block = IsBlock-vector (block_at i v) (block_fits v i few c.fits-others) in
      inverse_start words b (block_at i v) _ c.args.rounds hb block
      (block-xor i _ _ ∙ ap₂ (zip2 bit_xor) (block-map _ v _ i c.linear_back-2.ensures) (c.four_copies-start.ensures.copies i few ∙ are.first)
      ∙ affine_back_octets-xor (block_at i v) (round_key words c.args.rounds) block.octets.below (IsBlock-column_octets _).octets.below)
      held,
)

pub loop-round-preserved : goal.loop-round-preserved
loop-round-preserved c = (
  λ i few words are b hb held.
      let r : ℕ = c.args.rounds - c.loop-round.round in
      c.loop-round.invariant.0 i few words are b hb
      (inverse_step words b _ _ _ r _ (omega arith) hb (decryption_key_as _ _ _ (ap turned (c.four_copies-key.ensures.copies i few) ∙ c.turned_back.ensures) (are.middle r (omega arith) (omega arith))) (c.mixed_back-v.ensures i few) held),
  λ i few words are b hb held.
      let r : ℕ = c.args.rounds - c.loop-round.round in
      c.loop-round.invariant.1 i few words are b hb
      (inverse_step words b _ _ _ r _ (omega arith) hb (decryption_key_as _ _ _ (ap turned (c.four_copies-key.ensures.copies i few) ∙ c.turned_back.ensures) (are.middle r (omega arith) (omega arith))) (c.mixed_back-w.ensures i few) held),
)

pub returns-clause-front : goal.returns-clause-front
returns-clause-front c = λ i few words are.
    c.loop-round.invariant.0 i few words are _ (c.last_inverse_round.ensures.blocks i few)
    (inverse_end words _ _ _ (c.args.rounds - c.loop-round.round) (omega arith) (c.four_copies-end.ensures.copies i few ∙ are.last) (c.last_inverse_round.ensures.back i few))

pub returns-clause-back : goal.returns-clause-back
returns-clause-back c = λ i few words are.
    c.loop-round.invariant.1 i few words are _ (c.last_inverse_round-2.ensures.blocks i few)
    (inverse_end words _ _ _ (c.args.rounds - c.loop-round.round) (omega arith) (c.four_copies-end.ensures.copies i few ∙ are.last) (c.last_inverse_round-2.ensures.back i few))
