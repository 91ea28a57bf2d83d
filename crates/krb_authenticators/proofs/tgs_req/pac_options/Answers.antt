use Rattle.std.proofs.Common.{lit<}
use Rattle.krb_authenticators.proofs.Lengths.{below}
use Rattle.krb_authenticators.proofs.TgsLengths.{branch_within}
use Rattle.krb_authenticators.proofs.tgs_req.pac_options.Goals as goal

pub write-requires-clause-complete : goal.write-requires-clause-complete
write-requires-clause-complete c = rw c.in_ok-options.ensures branch_within.complete

pub write-requires-clause-short : goal.write-requires-clause-short
write-requires-clause-short c = rw c.in_ok-options.ensures (below _ 32 branch_within.short (lit< tt))
