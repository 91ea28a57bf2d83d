use Rattle.krb_as.proofs.OwnSuite.{own_suite}
use Rattle.krb_as.proofs.laws.without_rules_the_time_is_in_the_own_suite.Goals as goal

pub returns : goal.returns
returns c = own_suite
