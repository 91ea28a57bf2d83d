use Rattle.std.proofs.Common.{arith}
use Rattle.krb_aes.proofs.MixedBack.{turned-turned_back}
use Rattle.krb_aes.proofs.lanes.turned_back.Goals as goal

pub returns : goal.returns
returns c = turned-turned_back c.args.key (omega arith)
