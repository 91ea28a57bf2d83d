-- Keyrings in their handles, by the results of the calls.
use Rattle.std.specs.Prelude.{◌≡◌, ◌⊎◌, ℕ, ◌+◌, ◌-◌, ◌^◌, Bool, true, false, List, [], ◌++◌, length, min, Option, Some, None}
use Rattle.krb_c.specs.declared.reply.Failure.{Failure}
use Rattle.krb_c.specs.declared.reply.Failure.TheVariants.{Refused, Room, Argument, Handle}
use Rattle.krb_c.specs.Failures.{IsMisplaced}
use Rattle.krb_c.specs.Halves.{IsLong, channel_of}
use Rattle.krb_c.specs.Keytabs.{IsNoKeytab}
use Rattle.krb_entrance.specs.declared.candidate.Candidate.{Candidate}
use Rattle.krb_entrance.specs.Candidates.{client_told}
use Rattle.krb_entrance.specs.Services.{token_limit}
use Rattle.krb_keyring.specs.declared.keyring.Keyring.{Keyring}
use Rattle.krb_keyring.specs.Held.{held, named}
use Rattle.krb_keyring.specs.Judging.{OpensByRing, RefusesByRing}
use Rattle.krb_keytab.specs.declared.entry.KeytabEntry.{KeytabEntry}
use Rattle.krb_keytab.specs.Format.{Spells}
use Rattle.sspi_core.specs.declared.cause.Cause.TheVariants.{Memory}
use Rattle.sspi_core.specs.declared.draw.Draw.{Draw}
use Rattle.sspi_core.specs.declared.error.Error.{Error}
use Rattle.sspi_core.specs.Kinds.{error_of}

-- a ring without a key
pub record IsNewRing (ring : Keyring) : Type 0 where
  pub empty : (name : List (List ℕ)) → held ring name ≡ []
  pub count : ring.count ≡ 0
  pub limit : ring.token_limit ≡ token_limit

-- the ring that is made, if the handle was empty
pub record MakesRing (old : Option Keyring) (count : ℕ) (new : Option Keyring) : Type 0 where
  pub ring : Keyring
  pub was_empty : old ≡ None
  pub now : new ≡ Some ring
  pub is_new : IsNewRing ring
  pub none_written : count ≡ 0

-- the ring has these entries too, each after those of its name
pub record HasAlso (entries : List KeytabEntry) (before after : Keyring) : Type 0 where
  pub added : (name : List (List ℕ)) → held after name ≡ held before name ++ named name entries
  pub count : after.count ≡ min (before.count + length entries) (2 ^ 64 - 1)
  pub limit : after.token_limit ≡ before.token_limit

-- all entries of a keytab, and their number
pub record AddsEntries (file : List ℕ) (before : Keyring) (count : ℕ) (after : Keyring) : Type 0 where
  pub entries : List KeytabEntry
  pub spelled : Spells entries file
  pub has_also : HasAlso entries before after
  pub counted : count ≡ length entries

pub record AddsKeytab (file : List ℕ) (old : Option Keyring) (count : ℕ) (new : Option Keyring) : Type 0 where
  pub before : Keyring
  pub after : Keyring
  pub was : old ≡ Some before
  pub now : new ≡ Some after
  pub adds : AddsEntries file before count after

-- the ring has the entries, the count and the limit that it had
pub record HasAsBefore (before after : Keyring) : Type 0 where
  pub entries : (name : List (List ℕ)) → held after name ≡ held before name
  pub count : after.count ≡ before.count
  pub limit : after.token_limit ≡ before.token_limit

abbrev pub KeepsRing : Option Keyring → Option Keyring → Type 0
KeepsRing None new = new ≡ None
KeepsRing (Some before) new = (after : Keyring) × (new ≡ Some after) × HasAsBefore before after

-- the octets are no keytab, or memory ran out
abbrev pub RefusesFile : List ℕ → Error → Type 0
RefusesFile file error = IsNoKeytab file error ⊎ (error ≡ error_of Memory)

-- another limit of tokens
pub record LimitsRing (most : ℕ) (old : Option Keyring) (count : ℕ) (new : Option Keyring) : Type 0 where
  pub before : Keyring
  pub was : old ≡ Some before
  pub now : new ≡ Some (record before { token_limit = most })
  pub none_written : count ≡ 0

-- the number of entries that were added
abbrev pub entries_added : Option Keyring → ℕ
entries_added None = 0
entries_added (Some ring) = ring.count

-- the channel that a client is held to, if it is bound to one
abbrev pub channel_if : Bool → List ℕ → Option (List ℕ)
channel_if true octets = Some (channel_of octets)
channel_if false octets = None

abbrev pub IsLongIf : Bool → List ℕ → Type 0
IsLongIf true octets = IsLong octets
IsLongIf false octets = ⊥

-- a client whose token a ring lets come to the book, with what its token says of it
pub record IsOfRing (ring : Keyring) (channel : Option (List ℕ)) (token : List ℕ) (draw : Draw) (candidate : Candidate) : Type 0 where
  pub opens : OpensByRing ring channel token draw candidate
  pub client : candidate.client.value ≡ client_told candidate.judged.request

-- the candidate of a token, in a handle that was empty
pub record RingJudgesTo (channel : Option (List ℕ)) (token : List ℕ) (draw : Draw) (ring : Option Keyring) (to : Option Candidate) (count : ℕ)
    (made : Option Candidate) : Type 0 where
  pub keys : Keyring
  pub candidate : Candidate
  pub was : ring ≡ Some keys
  pub was_empty : to ≡ None
  pub made_is : made ≡ Some candidate
  pub is_of_ring : IsOfRing keys channel token draw candidate
  pub none_written : count ≡ 0

-- the ring refuses the token
pub record RingStops (channel : Option (List ℕ)) (token : List ℕ) (draw : Draw) (ring : Option Keyring) (to : Option Candidate) (error : Error) : Type 0 where
  pub keys : Keyring
  pub was : ring ≡ Some keys
  pub was_empty : to ≡ None
  pub refuses : RefusesByRing keys channel token draw error

-- why a token has no candidate
abbrev pub RingJudgesNot : Type 0 → Option (List ℕ) → List ℕ → Draw → Option Keyring → Option Candidate → Failure → Type 0
RingJudgesNot unfit channel token draw ring to (Refused error) = RingStops channel token draw ring to error
RingJudgesNot unfit channel token draw ring to (Room count) = ⊥
RingJudgesNot unfit channel token draw ring to Argument = unfit
RingJudgesNot unfit channel token draw ring to Handle = IsMisplaced ring to
