use Rattle.std.proofs.Common.{arith}
use Rattle.krb_aes.proofs.FourBlockLemmas.{copies_at}
use Rattle.krb_aes.proofs.four_blocks.four_copies.Goals as goal

pub returns-clause-copies : goal.returns-clause-copies
returns-clause-copies c = copies_at c.args.block (omega arith)
