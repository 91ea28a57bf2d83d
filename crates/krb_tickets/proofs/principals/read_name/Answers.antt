use Rattle.sspi_core.proofs.Chain.{held}
use Rattle.sspi_core.specs.declared.cause.Cause.TheVariants.{Shape}
use Rattle.krb_tickets.proofs.Names.{name_fits}
use Rattle.krb_tickets.proofs.principals.read_name.Goals as goal

pub returns-clause-fits : goal.returns-clause-fits
returns-clause-fits c =
    name_fits c.args.principal.now.name_type c.as_slice-components.result.now c.in_ok-names.names c.named.result (held Shape _ _ c.in_ok-check_components.ensures) c.in_ok-names.ensures c.named.ensures
