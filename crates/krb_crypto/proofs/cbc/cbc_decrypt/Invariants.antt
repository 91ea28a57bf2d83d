use Rattle.std.proofs.Common.{◌-◌, ◌≤◌}
use Rattle.krb_crypto.specs.Cbc.{AreOpened}
use Rattle.krb_crypto.proofs.cbc.cbc_decrypt.Given as goal

abbrev pub invariant-loop-i : goal.invariant-loop-i
invariant-loop-i l = (l.i ≤ l.count) × AreOpened l.key l.initial.text l.text l.previous l.i

abbrev pub decreases-loop-i : goal.decreases-loop-i
decreases-loop-i l = l.count - l.i
