use Rattle.std.proofs.Common.{codes}
use Rattle.std.proofs.lemmas.Str.Pattern.{contains_text}
use Rattle.krb_conf.proofs.PartLemmas.{has_part-is}
use Rattle.krb_conf.proofs.kdc.has_protocol.Goals as goal

pub returns : goal.returns
returns c = has_part-is c.contains.result (codes "://") c.args.address.now (contains_text c.contains.result (codes "://") c.args.address.now c.contains.ensures.cases)
