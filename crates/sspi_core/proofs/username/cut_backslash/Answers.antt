use Rattle.sspi_core.proofs.Cuts.{cut_at_first}
use Rattle.sspi_core.proofs.username.cut_backslash.Goals as goal

pub returns : goal.returns
returns c = cut_at_first c.args.text.now c.split_once.result c.split_once.ensures.cases
