use Rattle.std.proofs.Common.{rules}
use Rattle.krb_as.proofs.Replying.{brings_octets, brings_failure, octets_fail_not}
use Rattle.krb_as.proofs.receiving.unwrap_reply.Goals as goal

pub returns-in-Ok-clause-message : goal.returns-in-Ok-clause-message
returns-in-Ok-clause-message c = brings_octets c.args.protocol c.args.reply _ _ c.in-Ok.is c.unpacked.ensures

pub returns-in-Ok-clause-network : goal.returns-in-Ok-clause-network
returns-in-Ok-clause-network c = λ code e. absurd (octets_fail_not c.args.protocol _ _ code c.unpacked.ensures e)

pub returns-in-Err-Failed-clause-message : goal.returns-in-Err-Failed-clause-message
returns-in-Err-Failed-clause-message c = brings_failure c.args.protocol c.args.reply c.in-Err-Failed.code (search rules)
