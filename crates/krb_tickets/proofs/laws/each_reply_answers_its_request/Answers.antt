use Rattle.krb_tickets.proofs.FreshLemmas.{begins_fresh, goes_on_fresh, ends_fresh}
use Rattle.krb_tickets.proofs.laws.each_reply_answers_its_request.Goals as goal

pub returns : goal.returns
returns c = record { begins = begins_fresh; goes_on = goes_on_fresh; ends = ends_fresh }
