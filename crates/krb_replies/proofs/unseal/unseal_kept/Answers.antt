use Rattle.std.proofs.Common.{rules, arith}
use Rattle.std.proofs.lemmas.Bool.Decides.{nat_tests}
use Rattle.krb_replies.specs.Unseals.{Unseals}
use Rattle.sspi_core.proofs.Chain.{chain, held}
use Rattle.krb_replies.proofs.unseal.unseal_kept.Goals as goal

pub returns-in_err-check_key_length : goal.returns-in_err-check_key_length
unfolding Unseals
returns-in_err-check_key_length c = search (rules, chain)

pub returns-in_err-check_length : goal.returns-in_err-check_length
unfolding Unseals
returns-in_err-check_length c = search (rules, chain)

pub returns : goal.returns
unfolding Unseals
returns c = search (rules, chain)

pub unseal-requires-clause-key : goal.unseal-requires-clause-key
unseal-requires-clause-key c = let size = held _ _ _ c.in_ok-check_key_length.ensures in grind (arith, nat_tests)

pub unseal-requires-clause-long : goal.unseal-requires-clause-long
unseal-requires-clause-long c = let long = held _ _ _ c.in_ok-check_length.ensures in grind (arith, nat_tests)
