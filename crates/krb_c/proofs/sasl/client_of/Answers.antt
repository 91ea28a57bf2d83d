use Rattle.std.proofs.Common.{refl}
use Rattle.krb_c.specs.Sasl.{WishesAs}
use Rattle.krb_sasl.proofs.Chain.{stops, goes, answers, given}
use Rattle.krb_c.proofs.sasl.client_of.Goals as goal

pub returns-in_err-wanted : goal.returns-in_err-wanted
unfolding WishesAs
returns-in_err-wanted c = stops _ _ _ _ (answers _ _ c.in_err-wanted.ensures) c.from_residual.ensures.1

pub returns-in-Ok : goal.returns-in-Ok
unfolding WishesAs
returns-in-Ok c = rw c.set_order.ensures (rw c.in_order.ensures (goes _ _ _ _ (answers _ _ c.in_ok-wanted.ensures) (goes _ _ _ _ (rw c.in_ok-context.ensures at c.in-Ok.ensures) (given _))))

pub returns-in-Err : goal.returns-in-Err
unfolding WishesAs
returns-in-Err c = goes _ _ _ _ (answers _ _ c.in_ok-wanted.ensures) (stops _ _ _ _ (rw c.in_ok-context.ensures at c.in-Err.ensures) refl)
