use Rattle.std.proofs.Common.{arith}
use Rattle.krb_c.proofs.CodeLemmas.{cause_between}
use Rattle.krb_c.proofs.codes.cause_at.Goals as goal

pub returns-in_default-clause-none : goal.returns-in_default-clause-none
returns-in_default-clause-none c cause is = omega (arith, is, (cause_between cause).0, (cause_between cause).1)
