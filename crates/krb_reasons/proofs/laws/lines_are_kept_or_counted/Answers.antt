use Rattle.krb_reasons.proofs.KeepsLemmas.{kept_lines}
use Rattle.krb_reasons.proofs.laws.lines_are_kept_or_counted.Goals as goal

pub returns : goal.returns
returns c = λ pieces. kept_lines pieces
