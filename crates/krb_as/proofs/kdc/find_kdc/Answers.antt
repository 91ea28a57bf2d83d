use Rattle.std.proofs.Common.{rules}
use Rattle.krb_as.specs.Kdcs.{FindsKdc}
use Rattle.krb_as.proofs.Chains.{chains}
use Rattle.krb_as.proofs.kdc.find_kdc.Goals as goal

pub returns-in_err-url : goal.returns-in_err-url
unfolding FindsKdc
returns-in_err-url c = search (rules, chains)

pub returns-in_err-protocol : goal.returns-in_err-protocol
unfolding FindsKdc
returns-in_err-protocol c = search (rules, chains)

pub returns : goal.returns
unfolding FindsKdc
returns c = search (rules, chains)
