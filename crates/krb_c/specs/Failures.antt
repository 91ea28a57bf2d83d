-- Why a call is not done: the forms that several calls have.
use Rattle.std.specs.Prelude.{◌≡◌, ◌⊎◌, ◌<◌, ℕ, ◌==◌, Bool, false, ◌||◌, List, length, replicate, Option, Some, None, Result, Err}
use Rattle.std.specs.Str.{IsUtf8}
use Rattle.krb_c.specs.declared.reply.Failure.{Failure}
use Rattle.krb_c.specs.declared.reply.Failure.TheVariants.{Refused, Room, Argument, Handle}
use Rattle.sspi_core.specs.declared.cause.Cause.TheVariants.{Memory}
use Rattle.sspi_core.specs.declared.draw.Draw.{Draw}
use Rattle.sspi_core.specs.declared.error.Error.{Error}
use Rattle.sspi_core.specs.Kinds.{error_of}
use Rattle.sspi_core.specs.Moments.{last_moment}

-- the octets are no text
abbrev pub IsNoText : List ℕ → Type 0
IsNoText octets = IsUtf8 octets → ⊥

-- a key of AES128 or AES256 (RFC 3962, section 6)
abbrev pub has_key_length : List ℕ → Bool
has_key_length key = (length key == 16) || (length key == 32)

-- a service's name is no text, or its key has another length
abbrev pub IsUnfit : List ℕ → List ℕ → Type 0
IsUnfit name key = IsNoText name ⊎ (has_key_length key ≡ false)

-- the moment is after the end of 9999-12-28
abbrev pub IsLate : ℕ → Type 0
IsLate moment = last_moment < moment

-- the random octets of a moment are all 0, as if nobody had filled them
abbrev pub IsUnfilled : List ℕ → Type 0
IsUnfilled random = random ≡ replicate 64 0

-- a draw that is late or unfilled
abbrev pub IsNoDraw : Draw → Type 0
IsNoDraw draw = IsLate draw.moment ⊎ IsUnfilled draw.random

-- a call with unfilled octets is refused for this argument, whatever else is the case
abbrev pub RefusesUnfilled : {A : Type 0} → List ℕ → Result A Failure → Type 0
RefusesUnfilled random answer = IsUnfilled random → answer ≡ Err Argument

-- memory ran out
abbrev pub IsWant : Error → Type 0
IsWant error = error ≡ error_of Memory

-- nothing is refused
abbrev pub IsNever : Error → Type 0
IsNever error = ⊥

-- a call that needs no handle fails: the library refuses it, or an argument is unfit
abbrev pub RefusedAs : Type 0 → (Error → Type 0) → Failure → Type 0
RefusedAs unfit refuses (Refused error) = refuses error
RefusedAs unfit refuses (Room count) = ⊥
RefusedAs unfit refuses Argument = unfit
RefusedAs unfit refuses Handle = ⊥

-- why nothing is made in a handle: the library refuses it, an argument is unfit, or the handle is not empty
abbrev pub MakesNot : {A : Type 0} → Type 0 → (Error → Type 0) → Option A → Failure → Type 0
MakesNot unfit refuses old (Refused error) = refuses error
MakesNot unfit refuses old (Room count) = ⊥
MakesNot unfit refuses old Argument = unfit
MakesNot unfit refuses old Handle = old ≡ None → ⊥

-- why a value in a handle is not changed: the library refuses it, an argument is unfit, or the handle is empty
abbrev pub SetsNot : {A : Type 0} → Type 0 → (Error → Type 0) → Option A → Failure → Type 0
SetsNot unfit refuses old (Refused error) = refuses error
SetsNot unfit refuses old (Room count) = ⊥
SetsNot unfit refuses old Argument = unfit
SetsNot unfit refuses old Handle = old ≡ None

-- nothing can go from one handle into the other: the other is not empty, or the one is
abbrev pub IsMisplaced : {A B : Type 0} → Option A → Option B → Type 0
IsMisplaced from to = to ≡ None → from ≡ None
