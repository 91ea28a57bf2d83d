use Rattle.krb_machine.proofs.OnceLemmas.{text-once}
use Rattle.krb_machine.proofs.laws.one_text.Goals as goal

pub returns : goal.returns
returns c = text-once
