use Rattle.krb_refusals.proofs.Integers.{value_of_shortest, is_shortest}
use Rattle.krb_refusals.proofs.laws.microseconds_are_written_shortest.Goals as goal

pub returns-clause-number : goal.returns-clause-number
returns-clause-number c = λ n h. value_of_shortest n h

pub returns-clause-shortest : goal.returns-clause-shortest
returns-clause-shortest c = λ n h. is_shortest n h
