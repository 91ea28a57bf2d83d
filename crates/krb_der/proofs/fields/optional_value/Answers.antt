use Rattle.std.proofs.Common.{arith}
use Rattle.std.proofs.lemmas.Result.{err_from_is_err_and}
use Rattle.krb_der.proofs.fields.optional_value.Goals as goal

pub returns-in_err-value-clause-shape : goal.returns-in_err-value-clause-shape
returns-in_err-value-clause-shape g c = λ is.
    let p = err_from_is_err_and c.from_residual.result c.from_residual.ensures.1 in
    (grind arith, c.in_err-value.ensures.shape (grind arith))
