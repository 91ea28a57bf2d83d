use Rattle.std.proofs.Common.{sym, arith}
use Rattle.krb_der.specs.Integer.{integer_value}
use Rattle.krb_keyring.proofs.ChoiceLemmas.{past_w64}
use Rattle.krb_keyring.proofs.choice.is_number.Goals as goal

pub returns-in-None : goal.returns-in-None
returns-in-None c = sym (past_w64 (integer_value c.args.integer.now) c.args.number (omega (arith, c.ranges.number)) c.in-None.ensures)
