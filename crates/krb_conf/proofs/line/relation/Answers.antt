use Rattle.std.proofs.Common.{None, sym, arith}
use Rattle.std.proofs.lemmas.Str.Pattern.{split_once_first}
use Rattle.krb_conf.proofs.LineLemmas.{relation-absent}
use Rattle.krb_conf.proofs.line.relation.Goals as goal

pub returns-in_err-name : goal.returns-in_err-name
returns-in_err-name c =
    let absent = split_once_first 61 c.args.line.now None c.in_err-name.ensures.cases (omega arith) in
    rw c.from_residual.ensures (sym (relation-absent _ absent))
