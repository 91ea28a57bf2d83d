use Rattle.std.proofs.Common.{rules}
use Rattle.krb_replies.specs.Salts.{NamesSuite}
use Rattle.krb_replies.proofs.Chains.{chains}
use Rattle.krb_replies.proofs.salts.named_suite.Goals as goal

pub returns-in_err-hints : goal.returns-in_err-hints
unfolding NamesSuite
returns-in_err-hints c = search (rules, chains)

pub returns-in_err-entries : goal.returns-in_err-entries
unfolding NamesSuite
returns-in_err-entries c = search (rules, chains)

pub returns : goal.returns
unfolding NamesSuite
returns c = search (rules, chains)
