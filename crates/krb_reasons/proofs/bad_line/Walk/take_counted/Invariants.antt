use Rattle.krb_reasons.proofs.BadLineLemmas.{Onward}
use Rattle.krb_reasons.proofs.bad_line.Walk.take_counted.Given as goal

abbrev pub invariant-loop-line : goal.invariant-loop-line
invariant-loop-line l = Onward l.fn.self.judge l.self.judge l.fn.self.number l.self.number l.lines l.line-index
