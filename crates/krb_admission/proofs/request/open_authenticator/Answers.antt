use Rattle.std.proofs.Common.{rules}
use Rattle.krb_admission.specs.Requests.{OpensAuthenticator}
use Rattle.sspi_core.proofs.Chain.{chain, goes, stops, answers}
use Rattle.krb_admission.proofs.request.open_authenticator.Goals as goal

pub returns-in_err-sealed : goal.returns-in_err-sealed
unfolding OpensAuthenticator
returns-in_err-sealed c = search (rules, chain)

pub returns-in_err-check_names : goal.returns-in_err-check_names
unfolding OpensAuthenticator
returns-in_err-check_names c = goes _ _ _ _ c.in_ok-sealed.ensures (stops _ _ _ _ (answers _ _ c.in_err-check_names.ensures) c.from_residual-in_err-check_names.ensures.1)

pub returns : goal.returns
unfolding OpensAuthenticator
returns c = search (rules, chain)
