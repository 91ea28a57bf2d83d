use Rattle.krb_c.proofs.BroughtLemmas.{caches}
use Rattle.krb_c.proofs.credentials.with_ticket.Goals as goal

pub returns : goal.returns
returns c = record {
  so =
      λ no_memory.
      caches _ _ _ c.in_ok-cache.cache _ c.in_ok-credential.credential _ _ c.in_ok-cache.ensures c.in_ok-push.ensures.pushed c.in_ok-credential.ensures
      c.is_writable.ensures c.in_ok-hold.ensures c.in_ok-write.ensures;
}
