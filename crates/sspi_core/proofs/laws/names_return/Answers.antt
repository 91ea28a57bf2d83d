use Rattle.sspi_core.proofs.NameReturns.{names_return_lem}
use Rattle.sspi_core.proofs.laws.names_return.Goals as goal

pub returns : goal.returns
returns c = names_return_lem
