use Rattle.krb_replies.proofs.Suites.{keeps_suite, takes_in_suite}
use Rattle.krb_replies.proofs.laws.without_rules_keys_keep_the_suite.Goals as goal

pub returns : goal.returns
returns c = λ suite key answer. (keeps_suite suite key answer, takes_in_suite suite key answer)
