use Rattle.std.proofs.Common.{◌≤◌, List, length, subst}
use Rattle.sspi_core.specs.declared.error.Place.TheVariants.{Elsewhere}
use Rattle.sspi_core.specs.Buffer.{Buffer}
use Rattle.krb_context.specs.Spelled.{spelled}
use Rattle.krb_context.specs.Unwraps.{Unwraps}
use Rattle.krb_context.specs.Whole.{whole_message}
use Rattle.krb_context.proofs.ChainLemmas.{handed_on}
use Rattle.krb_context.proofs.context.Kerberos.unwrap_token.Goals as goal

pub returns-in_err-opened-clause-refused : goal.returns-in_err-opened-clause-refused
returns-in_err-opened-clause-refused c =
    handed_on Elsewhere (Unwraps c.args.self.now (whole_message c.args.token.now)) _ c.from_residual.result (rw c.whole.ensures at c.in_err-opened.ensures.opens)
    c.from_residual.ensures.1

pub returns-clause-long : goal.returns-clause-long
unfolding spelled
returns-clause-long c = subst (λ (b : List Buffer). 16 ≤ length (spelled b)) c.whole.ensures c.in_ok-opened.ensures.long
