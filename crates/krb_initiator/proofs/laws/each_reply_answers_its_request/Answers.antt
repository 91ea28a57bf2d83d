use Rattle.krb_initiator.proofs.FreshLemmas.{begins_fresh, goes_on_fresh, ends_fresh, hears_answer}
use Rattle.krb_initiator.proofs.laws.each_reply_answers_its_request.Goals as goal

pub returns : goal.returns
returns c = record { begins = begins_fresh; goes_on = goes_on_fresh; ends = ends_fresh; answered = hears_answer }
