-- An initiator of a user that has tickets: those of a credential cache, or a single one.
use Rattle.std.specs.Prelude.{◌≡◌, ◌⊎◌, ℕ, ◌/◌, ◌-◌, ◌^◌, min, List, Option, Some, Result, Ok, Err}
use Rattle.krb_as.specs.declared.key.Grant.{Grant}
use Rattle.krb_ccache.specs.declared.ccache.Ccache.{Ccache}
use Rattle.krb_ccache.specs.declared.credential.Times.{Times}
use Rattle.krb_ccache.specs.declared.error.CcacheError.{CcacheError}
use Rattle.krb_ccache.specs.declared.error.CcacheError.TheVariants.{Version, Head, Credential, OutOfMemory}
use Rattle.krb_ccache.specs.declared.principal.CcachePrincipal.{CcachePrincipal}
use Rattle.krb_ccache.specs.Format.{Spells, IsFault}
use Rattle.krb_context.specs.Refusals.{Refuses}
use Rattle.krb_dialogue.specs.declared.dialogue.Dialogue.{Dialogue}
use Rattle.krb_dialogue.specs.declared.tickets.CacheTicket.{CacheTicket}
use Rattle.krb_dialogue.specs.declared.tickets.CacheTicket.TheVariants.{Service, Granting}
use Rattle.krb_dialogue.specs.Settings.{SetsCache, NamesCacheHolder, SetsTicket, NamesHolder}
use Rattle.krb_entrance.specs.Services.{components}
use Rattle.krb_tickets.specs.Cached.{suite_of_type}
use Rattle.krb_tickets.specs.Held.{HoldsTicket}
use Rattle.sspi_core.specs.Checks.{Takes, ◌>>=◌}
use Rattle.sspi_core.specs.declared.cause.Cause.{Cause}
use Rattle.sspi_core.specs.declared.cause.Cause.TheVariants.{Memory, Shape, Etype}
use Rattle.sspi_core.specs.declared.error.Error.{Error}
use Rattle.sspi_core.specs.declared.error.Place.TheVariants.{Elsewhere}
use Rattle.sspi_core.specs.Kinds.{error_of}
use Rattle.sspi_core.specs.Usernames.{UserName}

-- ---- a credential cache

-- a fault of a cache, as the cause of a refusal
abbrev pub fault_cause : CcacheError → Cause
fault_cause Version = Shape
fault_cause Head = Shape
fault_cause (Credential place) = Shape
fault_cause OutOfMemory = Memory

-- the cache that the file spells, or why it is none
abbrev pub ReadsCcache : List ℕ → Result Ccache Cause → Type 0
ReadsCcache file (Ok cache) = Spells cache file
ReadsCcache file (Err cause) = (fault : CcacheError) × IsFault fault file × (cause ≡ fault_cause fault)

-- the file is no credential cache
abbrev pub IsNoCcache : List ℕ → Error → Type 0
IsNoCcache file error = (cause : Cause) × ReadsCcache file (Err cause) × (error ≡ error_of cause)

-- the second of a moment, in 32 bits; of a later moment the last one, in which no ticket of a cache is valid
abbrev pub second_of : ℕ → ℕ
second_of moment = min (moment / 1000000) (2 ^ 32 - 1)

-- which ticket was found, as a number of C's
abbrev pub ticket_code : CacheTicket → ℕ
ticket_code Service = 1
ticket_code Granting = 2

-- the ticket of this cache is set that is found in this second, and the count says which one it is
pub record SetsCcache (file : List ℕ) (seconds : ℕ) (old : Option Dialogue) (count : ℕ) (new : Option Dialogue) : Type 0 where
  pub before : Dialogue
  pub after : Dialogue
  pub was : old ≡ Some before
  pub now : new ≡ Some after
  pub cache : Ccache
  pub spelled : Spells cache file
  pub which : CacheTicket
  pub set : SetsCache cache seconds which before after
  pub counted : count ≡ ticket_code which

-- this cache has no ticket for the initiator in this second, or one that the initiator refuses
pub record HasNoTicket (file : List ℕ) (seconds : ℕ) (old : Option Dialogue) (error : Error) : Type 0 where
  pub before : Dialogue
  pub was : old ≡ Some before
  pub cache : Ccache
  pub spelled : Spells cache file
  pub refuses : Refuses Elsewhere (NamesCacheHolder before.options.target cache seconds) error

abbrev pub RefusesCcache : List ℕ → ℕ → Option Dialogue → Error → Type 0
RefusesCcache file seconds old error = IsNoCcache file error ⊎ HasNoTicket file seconds old error

-- ---- a single ticket

-- a client that C names, whose components `/` separates: a principal (RFC 4120, section 6.2)
abbrev pub client_named : List ℕ → List ℕ → CcachePrincipal
client_named realm name = record { name_type = 1; realm = realm; components = components name }

-- a ticket whose times are not told
abbrev pub no_times : Times
no_times = record { authenticated = 0; start = 0; end = 0; renew_until = 0 }

-- a ticket in DER, the client that C names for it, and its session key of this encryption type
pub record NamedTicket : Type 0 where
  pub realm : List ℕ
  pub name : List ℕ
  pub key_type : ℕ
  pub key : List ℕ
  pub ticket : List ℕ

abbrev pub named_ticket : List ℕ → List ℕ → ℕ → List ℕ → List ℕ → NamedTicket
named_ticket realm name key_type key ticket = record { realm = realm; name = name; key_type = key_type; key = key; ticket = ticket }

unfoldable pub HoldsNamed : NamedTicket → Result Grant Cause → Type 0
HoldsNamed named = do
  suite ← Takes Etype (suite_of_type named.key_type)
  HoldsTicket (client_named named.realm named.name) suite named.key named.ticket 0 no_times

-- and its user
unfoldable pub NamesNamed : NamedTicket → Result UserName Cause → Type 0
NamesNamed named = do
  held ← HoldsNamed named
  NamesHolder held

-- the ticket is set
abbrev pub SetsNamed : NamedTicket → Dialogue → Dialogue → Type 0
SetsNamed named old new = (held : Grant) × HoldsNamed named (Ok held) × SetsTicket held old new
