use Rattle.std.proofs.Common.{rules}
use Rattle.krb_replies.specs.Unseals.{Unseals}
use Rattle.sspi_core.proofs.Chain.{chain, held}
use Rattle.krb_replies.proofs.unseal.unseal.Goals as goal

pub returns-in_err-check_key_length : goal.returns-in_err-check_key_length
unfolding Unseals
returns-in_err-check_key_length c = search (rules, chain)

pub returns-in_err-check_length : goal.returns-in_err-check_length
unfolding Unseals
returns-in_err-check_length c = search (rules, chain)

pub returns : goal.returns
unfolding Unseals
returns c = search (rules, chain)

pub decrypt_or-requires-clause-key : goal.decrypt_or-requires-clause-key
decrypt_or-requires-clause-key c = held _ _ _ c.in_ok-check_key_length.ensures

pub decrypt_or-requires-clause-long : goal.decrypt_or-requires-clause-long
decrypt_or-requires-clause-long c = held _ _ _ c.in_ok-check_length.ensures
