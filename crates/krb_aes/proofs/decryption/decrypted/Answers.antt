use Rattle.std.proofs.Common.{ℕ, ◌-◌, ap₂, ◌∙◌, arith}
use lib.Lanes.{zip2}
use lib.Bits.{bit_xor}
use Rattle.krb_aes.specs.Round.{round_key}
use Rattle.krb_aes.proofs.InjectiveLemmas.{IsBlock-column_octets}
use Rattle.krb_aes.proofs.ForwardChain.{IsBlock-vector}
use Rattle.krb_aes.proofs.InverseChain.{affine_back_octets-xor, inverse_start, inverse_step, inverse_end}
use Rattle.krb_aes.proofs.decryption.decrypted.Goals as goal

pub loop-round-init : goal.loop-round-init
loop-round-init c = λ words are b hb held.
    let block = IsBlock-vector c.args.block c.fits-block in
    inverse_start words b c.args.block _ c.args.rounds hb block
    (ap₂ (zip2 bit_xor) c.linear_back.ensures are.first ∙ affine_back_octets-xor c.args.block (round_key words c.args.rounds) block.octets.below (IsBlock-column_octets _).octets.below)
    held

pub loop-round-preserved : goal.loop-round-preserved
loop-round-preserved c = λ words are b hb held.
    let r : ℕ = c.args.rounds - c.loop-round.round in
    c.loop-round.invariant words are b hb
    (inverse_step words b _ _ _ r _ (omega arith) hb (are.middle r (omega arith) (omega arith)) c.inverse_round-v.ensures.back held)

pub returns : goal.returns
returns c = λ words are.
    c.loop-round.invariant words are _ c.last_inverse_round.ensures.block
    (inverse_end words _ _ _ (c.args.rounds - c.loop-round.round) (omega arith) are.last c.last_inverse_round.ensures.back)
