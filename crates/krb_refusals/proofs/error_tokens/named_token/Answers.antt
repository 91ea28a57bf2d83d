use Rattle.sspi_core.proofs.Chain.{stops, goes}
use Rattle.krb_refusals.specs.ErrorTokens.{NamesService}
use Rattle.krb_refusals.proofs.Lengths.{components_short}
use Rattle.krb_refusals.proofs.error_tokens.named_token.Goals as goal

pub returns-in_err-sname : goal.returns-in_err-sname
unfolding NamesService
returns-in_err-sname c = goes _ _ _ _ c.in_ok-name.ensures (stops _ _ _ _ c.in_err-sname.ensures c.from_residual-in_err-sname.ensures.1)

pub given_token-requires-clause-components : goal.given_token-requires-clause-components
given_token-requires-clause-components c = components_short c.args.service.now c.in_ok-sname.sname c.in_ok-sname.ensures c.requires.service

pub returns : goal.returns
unfolding NamesService
returns c = goes _ _ _ _ c.in_ok-name.ensures (goes _ _ _ _ c.in_ok-sname.ensures c.in_ok-token.ensures)
