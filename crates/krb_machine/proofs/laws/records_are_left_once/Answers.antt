use Rattle.krb_machine.specs.Described.{Remembers}
use Rattle.krb_machine.proofs.LeftLemmas.{left-once, done-left}
use Rattle.krb_machine.proofs.laws.records_are_left_once.Goals as goal

pub returns-clause-once : goal.returns-clause-once
returns-clause-once c = left-once

pub returns-clause-done : goal.returns-clause-done
returns-clause-done c = λ skew. done-left (Remembers skew)
