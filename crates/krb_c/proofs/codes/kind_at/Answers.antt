use Rattle.std.proofs.Common.{arith}
use Rattle.krb_c.proofs.CodeLemmas.{kind_between}
use Rattle.krb_c.proofs.codes.kind_at.Goals as goal

pub returns-in_default-clause-none : goal.returns-in_default-clause-none
returns-in_default-clause-none c kind is = omega (arith, is, (kind_between kind).0, (kind_between kind).1)
