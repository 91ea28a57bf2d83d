use Rattle.krb_script.proofs.PartLemmas.{place_parts}
use Rattle.krb_script.proofs.parts.place_of.Goals as goal

pub returns-clause-parts : goal.returns-clause-parts
returns-clause-parts c = place_parts c.args.separator c.args.text.now c.memchr.result c.memchr.ensures
