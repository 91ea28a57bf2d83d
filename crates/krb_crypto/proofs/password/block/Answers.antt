use Rattle.std.proofs.Common.{rules, ◌≡◌, ◌-◌, refl, arith}
use Rattle.krb_crypto.proofs.PasswordLemmas.{iterated_first, iterated_next}
use Rattle.krb_crypto.proofs.password.block.Goals as goal

pub loop-done-init : goal.loop-done-init
loop-done-init c = (search rules, search rules, λ password of. iterated_first password c.args.salt.now _ _ c.args.number _ refl c.to_be_bytes.ensures (c.code-last.ensures password of))

pub loop-done-preserved : goal.loop-done-preserved
loop-done-preserved c = (
  search rules,
  search rules,
  λ password of.
      let held = c.loop-done.invariant.2 password of in
      iterated_next password c.args.salt.now c.loop-done.last _ c.loop-done.sum _ c.args.number (c.loop-done.done - 1) _ (omega arith) held.0 held.1 (c.code-next.ensures password of) c.xor_octets-more.ensures,
)

pub returns : goal.returns
returns c =
    let all : c.loop-done.done - 1 ≡ c.args.iterations - 1 = omega arith in
    λ password of. rw all at (c.loop-done.invariant.2 password of).1
