use Rattle.krb_c.proofs.BroughtLemmas.{caches_brought}
use Rattle.krb_c.proofs.credentials.ccache_with.Goals as goal

pub returns-in-Some : goal.returns-in-Some
returns-in-Some c =
    caches_brought _ _ _ _ c.in_ok-ticket.field-0 c.in-Some.ticket c.with_ticket.result c.in-Some.is c.in_ok-ticket.ensures.step c.with_ticket.ensures
