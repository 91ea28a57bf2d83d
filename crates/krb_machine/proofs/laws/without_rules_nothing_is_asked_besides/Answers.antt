use Rattle.krb_machine.proofs.RulesLemmas.{allowed_without, service_without}
use Rattle.krb_machine.proofs.laws.without_rules_nothing_is_asked_besides.Goals as goal

pub returns-clause-allowed : goal.returns-clause-allowed
returns-clause-allowed c = allowed_without

pub returns-clause-lines : goal.returns-clause-lines
returns-clause-lines c = service_without
