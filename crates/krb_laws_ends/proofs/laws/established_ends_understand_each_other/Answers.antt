use Rattle.krb_laws_ends.proofs.ReachLemmas.{understand}
use Rattle.krb_laws_ends.proofs.laws.established_ends_understand_each_other.Goals as goal

pub returns : goal.returns
returns c = understand
