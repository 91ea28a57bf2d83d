use Rattle.krb_admission.proofs.Once.{concludes_once}
use Rattle.krb_admission.proofs.laws.one_last_word.Goals as goal

pub returns : goal.returns
returns c = concludes_once
