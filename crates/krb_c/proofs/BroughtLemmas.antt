-- A ticket that was brought, in a cache.
use Rattle.std.proofs.Common.{◌≡◌, ℕ, Bool, List, [], ◌∷◌, ◌++◌, Option, Some, Result, Ok, ap, ◌∙◌, subst}
use Rattle.krb_as.specs.declared.key.Grant.{Grant}
use Rattle.krb_c.specs.Brought.{Brings, CachesFound, CachesTicket, Caches, with_ticket}
use Rattle.krb_c.specs.Ccaches.{ReadsCcache}
use Rattle.krb_ccache.specs.Format.{Spells, written}
use Rattle.krb_ccache.specs.Writing.{can_be_written}
use Rattle.krb_ccache.specs.declared.ccache.Ccache.{Ccache}
use Rattle.krb_ccache.specs.declared.credential.Credential.{Credential}
use Rattle.krb_dialogue.specs.declared.dialogue.Dialogue.{Dialogue}
use Rattle.krb_tickets.specs.Cached.{credential_of}
use Rattle.sspi_core.proofs.Chain.{follows, goes}
use Rattle.sspi_core.specs.Checks.{Answers, Holds}
use Rattle.sspi_core.specs.declared.cause.Cause.{Cause}
use Rattle.sspi_core.specs.declared.cause.Cause.TheVariants.{Shape}
use Rattle.sspi_core.specs.declared.draw.Draw.{Draw}

-- a cache that was read, with the ticket, and written
module _ (file octets : List ℕ) (ticket : Grant) (cache whole : Ccache) (credential : Credential) (test : Bool) (x : Unit {0}) where
  pub caches : Spells cache file → whole ≡ record cache { credentials = cache.credentials ++ credential ∷ [] } → credential ≡ credential_of ticket
      → test ≡ can_be_written whole → Holds {E = Cause} Shape test (Ok x) → octets ≡ written whole → CachesTicket file ticket (Ok octets)
  unfolding CachesTicket
  caches spelled pushed same tested holds is =
      let at : whole ≡ with_ticket ticket cache = pushed ∙ ap (λ (c : Credential). record cache { credentials = cache.credentials ++ c ∷ [] }) same in
      follows (ReadsCcache file) _ cache (Ok octets) spelled
      (follows (Holds Shape (can_be_written (with_ticket ticket cache))) _ x (Ok octets)
      (subst (λ (b : Bool). Holds {E = Cause} Shape b (Ok x)) (tested ∙ ap can_be_written at) holds) (record { is = ap Ok (is ∙ ap written at) }))

-- the ticket that was brought is cached
pub caches_brought : (file reply : List ℕ) (draw : Draw) (dialogue : Dialogue) (found : Option Grant) (ticket : Grant) (answer : Result (List ℕ) Cause) → found ≡ Some ticket
    → Answers (Brings dialogue reply draw) (Ok found) → Answers (CachesTicket file ticket) answer → Answers (Caches file reply draw dialogue) answer
unfolding Caches
caches_brought file reply draw dialogue found ticket answer is brings cached =
    goes (Brings dialogue reply draw) (λ f. CachesFound file f) (Some ticket) answer (subst (λ (o : Option Grant). Answers (Brings dialogue reply draw) (Ok o)) is brings)
    (record { so = λ ne. cached.so ne })
