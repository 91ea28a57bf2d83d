use Rattle.std.proofs.Common.{◌-◌, length}
use Rattle.krb_reasons.proofs.HeadLemmas.{IsTaken}
use Rattle.krb_reasons.proofs.head.Head.take_lines.Given as goal

abbrev pub invariant-lines : goal.invariant-lines
invariant-lines l = IsTaken l.text l.done l.initial.self l.self

abbrev pub decreases-lines : goal.decreases-lines
decreases-lines l = length l.text - l.done
