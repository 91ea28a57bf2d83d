use Rattle.std.proofs.Common.{rules}
use Rattle.krb_admission.specs.Tokens.{ReceivesApReq}
use Rattle.sspi_core.proofs.Chain.{chain}
use Rattle.krb_admission.proofs.token.receive.Goals as goal

pub returns-in_err-check_token_length : goal.returns-in_err-check_token_length
unfolding ReceivesApReq
returns-in_err-check_token_length c = search (rules, chain)

pub returns : goal.returns
unfolding ReceivesApReq
returns c = search (rules, chain)
