use Rattle.krb_ap.proofs.OptionLemmas.{awaits, continues, keeps_number, keeps_key, chooses}
use Rattle.krb_ap.proofs.laws.without_rules_an_answer_is_awaited.Goals as goal

pub returns : goal.returns
returns c = record { state = awaits; status = continues; number = keeps_number; key = keeps_key; subkey = chooses }
