use Rattle.sspi_core.proofs.Cuts.{cut_at_last}
use Rattle.sspi_core.proofs.username.cut_at_sign.Goals as goal

pub returns : goal.returns
returns c = cut_at_last c.args.text.now c.rsplit_once.result c.rsplit_once.ensures.cases
