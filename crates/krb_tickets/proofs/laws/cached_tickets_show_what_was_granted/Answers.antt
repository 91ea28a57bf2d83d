use Rattle.krb_tickets.proofs.CachedLemmas.{shows, taken}
use Rattle.krb_tickets.proofs.laws.cached_tickets_show_what_was_granted.Goals as goal

pub returns : goal.returns
returns c = record { shows = λ grant held can h. shows grant can held h; taken = λ grant cause can h. taken grant can cause h }
