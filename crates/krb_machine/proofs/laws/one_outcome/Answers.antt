use Rattle.krb_machine.proofs.Once.{one_initiation, one_beginning, one_going_on}
use Rattle.krb_machine.proofs.laws.one_outcome.Goals as goal

pub returns : goal.returns
returns c = record { initiations = one_initiation; begins = one_beginning; goes_on = one_going_on }
