-- The ticket that a KDC's reply brings to an initiator, in a credential cache.
use Rattle.std.specs.Prelude.{◌≡◌, ℕ, List, [], ◌∷◌, ◌++◌, Option, Some, None, Result, Ok}
use Rattle.krb_as.specs.declared.key.Grant.{Grant}
use Rattle.krb_c.specs.Ccaches.{ReadsCcache}
use Rattle.krb_c.specs.declared.reply.Failure.{Failure}
use Rattle.krb_c.specs.declared.reply.Failure.TheVariants.{Refused, Room, Argument, Handle}
use Rattle.krb_ccache.specs.declared.ccache.Ccache.{Ccache}
use Rattle.krb_ccache.specs.Format.{written}
use Rattle.krb_ccache.specs.Writing.{can_be_written}
use Rattle.krb_context.specs.Refusals.{Refuses}
use Rattle.krb_dialogue.specs.declared.dialogue.Dialogue.{Dialogue}
use Rattle.krb_dialogue.specs.HandedOut.{run_in}
use Rattle.krb_sessions.specs.Gives.{Delivers, IsShort}
use Rattle.krb_tickets.specs.Brought.{BringsTicket}
use Rattle.krb_tickets.specs.Cached.{credential_of}
use Rattle.sspi_core.specs.Checks.{Holds, Takes, Gives, ◌>>=◌, ◌>>◌}
use Rattle.sspi_core.specs.declared.cause.Cause.{Cause}
use Rattle.sspi_core.specs.declared.cause.Cause.TheVariants.{Sequence, Shape}
use Rattle.sspi_core.specs.declared.draw.Draw.{Draw}
use Rattle.sspi_core.specs.declared.error.Error.{Error}
use Rattle.sspi_core.specs.declared.error.Place.TheVariants.{Elsewhere}

-- the ticket that a reply brings to the exchange that awaits one
unfoldable pub Brings : Dialogue → List ℕ → Draw → Result (Option Grant) Cause → Type 0
Brings dialogue reply draw = do
  run ← Takes Sequence (run_in dialogue.turn)
  BringsTicket run.initiation run.phase (Ok reply) draw

-- a ticket after those of a cache
abbrev pub with_ticket : Grant → Ccache → Ccache
with_ticket ticket cache = record cache { credentials = cache.credentials ++ credential_of ticket ∷ [] }

-- the file of a cache, with this ticket
unfoldable pub CachesTicket : List ℕ → Grant → Result (List ℕ) Cause → Type 0
CachesTicket file ticket = do
  cache ← ReadsCcache file
  Holds Shape (can_be_written (with_ticket ticket cache))
  Gives (written (with_ticket ticket cache))

-- with the ticket that was brought; no octets if none was
abbrev pub CachesFound : List ℕ → Option Grant → Result (List ℕ) Cause → Type 0
CachesFound file None answer = Gives [] answer
CachesFound file (Some ticket) answer = CachesTicket file ticket answer

unfoldable pub Caches : List ℕ → List ℕ → Draw → Dialogue → Result (List ℕ) Cause → Type 0
Caches file reply draw dialogue = do
  found ← Brings dialogue reply draw
  CachesFound file found

-- the file goes into the buffer
pub record HandsCcache (file reply : List ℕ) (draw : Draw) (initiator : Option Dialogue) (room : List ℕ) (count : ℕ) (out : List ℕ) : Type 0 where
  pub dialogue : Dialogue
  pub was : initiator ≡ Some dialogue
  pub delivers : Delivers (λ octets. Caches file reply draw dialogue (Ok octets)) room count out

-- there is none to return
pub record HasNoCcache (file reply : List ℕ) (draw : Draw) (initiator : Option Dialogue) (error : Error) : Type 0 where
  pub dialogue : Dialogue
  pub was : initiator ≡ Some dialogue
  pub refuses : Refuses Elsewhere (Caches file reply draw dialogue) error

-- the buffer is too short for it
pub record IsShortForCcache (file reply : List ℕ) (draw : Draw) (initiator : Option Dialogue) (room count : ℕ) : Type 0 where
  pub dialogue : Dialogue
  pub was : initiator ≡ Some dialogue
  pub is_short : IsShort (λ octets. Caches file reply draw dialogue (Ok octets)) room count

-- why the file is not returned: the moment is late, the reply is refused, the buffer is too short, or there is no initiator
abbrev pub CcacheNot : Type 0 → List ℕ → List ℕ → Draw → Option Dialogue → ℕ → Failure → Type 0
CcacheNot unfit file reply draw initiator room (Refused error) = HasNoCcache file reply draw initiator error
CcacheNot unfit file reply draw initiator room (Room count) = IsShortForCcache file reply draw initiator room count
CcacheNot unfit file reply draw initiator room Argument = unfit
CcacheNot unfit file reply draw initiator room Handle = initiator ≡ None
