use Rattle.std.proofs.Common.{◌≡◌, ◌≤◌, take}
use Rattle.krb_machine.specs.Reply.{admissions}
use Rattle.krb_threads.proofs.text.admissions.Given as goal

abbrev pub invariant-loop-index : goal.invariant-loop-index
invariant-loop-index l = (l.count ≡ admissions (take l.index l.replies)) × (l.count ≤ l.index)
