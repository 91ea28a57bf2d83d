use Rattle.krb_reasons.proofs.BadLineLemmas.{Among}
use Rattle.krb_reasons.proofs.bad_line.Walk.take_numbered.Given as goal

abbrev pub invariant-loop-place : goal.invariant-loop-place
invariant-loop-place l = Among l.fn.self.judge l.self.judge l.lines l.numbers l.place
