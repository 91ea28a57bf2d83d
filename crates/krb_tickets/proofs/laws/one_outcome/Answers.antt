use Rattle.krb_tickets.proofs.Once.{starts_held_once}
use Rattle.krb_tickets.proofs.laws.one_outcome.Goals as goal

pub returns : goal.returns
returns c = record { starts = λ seeker held draw r s h k. (starts_held_once seeker held draw).same r s h k }
