use Rattle.std.proofs.Common.{ℕ, List, length, get_or, refl, ap, eqb-true, eq-eqb, arith}
use Rattle.krb_der.proofs.EqualLemmas.{next_equal, all_equal}
use Rattle.krb_der.proofs.equal.is_equal.Goals as goal

pub loop-i-preserved : goal.loop-i-preserved
loop-i-preserved c = next_equal c.loop-i.differences c.loop-i.i c.args.octets.now c.args.others.now c.loop-i.invariant

pub returns : goal.returns
returns c =
    let xs : List ℕ = c.args.octets.now in
    let ys : List ℕ = c.args.others.now in (
      λ e. all_equal xs ys (length xs) refl (omega arith) (λ k h. c.loop-i.invariant.0 (eqb-true _ _ e) k (omega arith)),
      λ e. eq-eqb _ _ (c.loop-i.invariant.1 (λ k h. ap (λ (l : List ℕ). get_or l k 0) e)),
    )
