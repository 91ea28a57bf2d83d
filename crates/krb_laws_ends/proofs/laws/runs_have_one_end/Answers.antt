use Rattle.krb_laws_ends.proofs.OneEndLemmas.{one_end}
use Rattle.krb_laws_ends.proofs.laws.runs_have_one_end.Goals as goal

pub returns : goal.returns
returns c = one_end
