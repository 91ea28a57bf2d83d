use Rattle.krb_tickets.proofs.BroughtLemmas.{shows_next, ends_with}
use Rattle.krb_tickets.proofs.laws.runs_go_on_with_the_ticket_that_is_brought.Goals as goal

pub returns : goal.returns
returns c = record {
  shows = λ seeker phase reply draw request leg h. shows_next seeker reply draw phase request leg h;
  ends = λ seeker phase reply draw done h. ends_with seeker reply draw phase done h;
}
