use Rattle.std.proofs.Common.{◌≡◌, subst, rules, arith, FitsSigned, to_z}
use Rattle.std.specs.Int.{w64}
use Rattle.krb_der.specs.Integer.{integer_value}
use Rattle.krb_der.proofs.Integers.{stopped, done}
use Rattle.krb_der.proofs.integer.number.Goals as goal

pub returns-in_err-number : goal.returns-in_err-number
returns-in_err-number c =
    rw c.from_residual.ensures (stopped c.args.octets.now c.loop-octet.octet-index _ (λ i. omega (arith, c.type_inv.octets i)) c.loop-octet-test.true c.loop-octet.invariant c.in_err-number.ensures)

pub returns : goal.returns
returns c =
    let is : to_z w64 c.loop-octet.number-bits ≡ integer_value c.args.octets.now = done c.args.octets.now c.loop-octet.octet-index _ c.loop-octet-test.false c.loop-octet.invariant in
    let fits : FitsSigned w64 (to_z w64 c.loop-octet.number-bits) = search rules in
    (subst (FitsSigned w64) is fits, is)
