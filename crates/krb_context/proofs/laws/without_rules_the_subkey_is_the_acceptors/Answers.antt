use Rattle.krb_context.proofs.OptionLemmas.{seals_always, signs_always}
use Rattle.krb_context.proofs.laws.without_rules_the_subkey_is_the_acceptors.Goals as goal

pub returns-clause-sealed : goal.returns-clause-sealed
returns-clause-sealed c = seals_always

pub returns-clause-signed : goal.returns-clause-signed
returns-clause-signed c = signs_always
