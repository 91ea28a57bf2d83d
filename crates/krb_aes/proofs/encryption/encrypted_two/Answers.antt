use Rattle.std.proofs.Common.{arith}
use Rattle.krb_aes.proofs.ForwardChain.{start_is, step_is, end_is}
use Rattle.krb_aes.proofs.encryption.encrypted_two.Goals as goal

pub loop-round-init : goal.loop-round-init
loop-round-init c = (
  λ words are. start_is words c.args.block _ _ c.fits-block c.into_tower.ensures are.first,
  λ words are. start_is words c.args.other _ _ c.fits-other c.into_tower-2.ensures are.first,
)

pub loop-round-preserved : goal.loop-round-preserved
loop-round-preserved c = (
  λ words are.
      step_is words c.args.block _ _ _ c.loop-round.round (omega arith) c.fits-block (c.loop-round.invariant.0 words are)
      (are.middle c.loop-round.round (omega arith) (omega arith)) c.full_round-v.ensures,
  λ words are.
      step_is words c.args.other _ _ _ c.loop-round.round (omega arith) c.fits-other (c.loop-round.invariant.1 words are)
      (are.middle c.loop-round.round (omega arith) (omega arith)) c.full_round-w.ensures,
)

pub returns-clause-first : goal.returns-clause-first
returns-clause-first c = λ words are.
    end_is words c.args.block _ _ _ c.args.rounds c.loop-round.round (omega arith) c.fits-block (c.loop-round.invariant.0 words are)
    are.last c.last_round.ensures

pub returns-clause-second : goal.returns-clause-second
returns-clause-second c = λ words are.
    end_is words c.args.other _ _ _ c.args.rounds c.loop-round.round (omega arith) c.fits-other (c.loop-round.invariant.1 words are)
    are.last c.last_round-2.ensures
