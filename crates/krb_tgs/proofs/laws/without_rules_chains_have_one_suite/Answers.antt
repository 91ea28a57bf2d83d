use Rattle.krb_tgs.proofs.Chains.{hands_on_suite}
use Rattle.krb_tgs.proofs.laws.without_rules_chains_have_one_suite.Goals as goal

pub returns : goal.returns
returns c = hands_on_suite
