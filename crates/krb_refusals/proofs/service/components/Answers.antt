use Rattle.std.proofs.Common.{Ok, Global, arith}
use Rattle.std.proofs.lemmas.Iterator.Consumers.{map_from_collect}
use Rattle.std.proofs.lemmas.Iterator.Splits.{YieldsList-from_str_split}
use Rattle.krb_refusals.proofs.service.components.Goals as goal

pub returns : goal.returns
returns c =
    map_from_collect {Z = Global} {E = Unit {0}} (Ok c.in_ok-collect.field-0) c.in_ok-collect.ensures.ran
    (YieldsList-from_str_split {s = c.split.result} 47 c.args.service.now (omega arith) (cc) (cc) (cc))
