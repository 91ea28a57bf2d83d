-- Candidates that are shown, and admitted if machines share a store.
use Rattle.std.specs.Prelude.{◌≡◌, ℕ, ◌==◌, Bool, not, List, length, Option, Some, None}
use Rattle.krb_admission.specs.Halves.{question}
use Rattle.krb_c.specs.declared.reply.Failure.{Failure}
use Rattle.krb_c.specs.declared.reply.Failure.TheVariants.{Refused, Room, Argument, Handle}
use Rattle.krb_c.specs.Failures.{IsMisplaced}
use Rattle.krb_context.specs.Refusals.{Refuses}
use Rattle.krb_entrance.specs.declared.candidate.Candidate.{Candidate}
use Rattle.krb_entrance.specs.Told.{IsToldIn, IsToldAway, record_octets, told_gate}
use Rattle.krb_sessions.specs.declared.session.Session.{Session}
use Rattle.krb_sessions.specs.Gives.{Delivers, IsShort}
use Rattle.krb_sessions.specs.Principals.{principal_text}
use Rattle.sspi_core.specs.declared.cause.Cause.TheVariants.{Memory}
use Rattle.sspi_core.specs.declared.error.Error.{Error}
use Rattle.sspi_core.specs.declared.error.Place.TheVariants.{Elsewhere}
use Rattle.sspi_core.specs.Kinds.{error_of}

-- the whole name of the candidate's client, and of the service that its ticket is for
abbrev pub IsClientText : Candidate → List ℕ → Type 0
IsClientText candidate text = text ≡ principal_text candidate.judged.request.part.cname.name_string candidate.judged.request.part.crealm

abbrev pub IsServiceText : Candidate → List ℕ → Type 0
IsServiceText candidate text = text ≡ principal_text candidate.judged.request.message.ticket.sname.name_string candidate.judged.request.message.ticket.realm

-- the record of the candidate in a store
abbrev pub IsStored : Candidate → List ℕ → Type 0
IsStored candidate octets = octets ≡ record_octets (question candidate.judged).entry

-- octets of the candidate's go into the buffer
pub record Shows (gives : Candidate → List ℕ → Type 0) (judged : Option Candidate) (room : List ℕ) (count : ℕ) (out : List ℕ) : Type 0 where
  pub candidate : Candidate
  pub was : judged ≡ Some candidate
  pub delivers : Delivers (gives candidate) room count out

-- the buffer is too short for them
pub record ShowsShort (gives : Candidate → List ℕ → Type 0) (judged : Option Candidate) (room count : ℕ) : Type 0 where
  pub candidate : Candidate
  pub was : judged ≡ Some candidate
  pub is_short : IsShort (gives candidate) room count

-- why they are not returned
abbrev pub ShowsNot : (Candidate → List ℕ → Type 0) → Option Candidate → ℕ → Failure → Type 0
ShowsNot gives judged room (Refused error) = error ≡ error_of Memory
ShowsNot gives judged room (Room count) = ShowsShort gives judged room count
ShowsNot gives judged room Argument = ⊥
ShowsNot gives judged room Handle = judged ≡ None

-- a number of C's as yes or no: 0 is no
abbrev pub is_set : ℕ → Bool
is_set n = not (n == 0)

-- the candidate is admitted: the store did not have its record, the clock refuses nothing, and no check after it refuses
pub record ToldInTo (judged : Option Candidate) (to : Option Session) (skew moment seen count : ℕ) (spent : Option Candidate)
    (session : Option Session) : Type 0 where
  pub candidate : Candidate
  pub guest : Session
  pub was_judged : judged ≡ Some candidate
  pub is_spent : spent ≡ None
  pub was_empty : to ≡ None
  pub session_is : session ≡ Some guest
  pub is_told_in : IsToldIn candidate (told_gate candidate.judged skew moment (is_set seen)) guest
  pub counted : count ≡ length guest.answer

-- it is turned away, by the clock, by the store's answer, or by a check after them
pub record TurnsTold (judged : Option Candidate) (to : Option Session) (skew moment seen : ℕ) (spent : Option Candidate) (error : Error) : Type 0 where
  pub candidate : Candidate
  pub was_judged : judged ≡ Some candidate
  pub is_spent : spent ≡ None
  pub was_empty : to ≡ None
  pub refuses : Refuses Elsewhere (IsToldAway candidate (told_gate candidate.judged skew moment (is_set seen))) error

-- why a candidate is not admitted
abbrev pub ToldInNot : Option Candidate → Option Session → ℕ → ℕ → ℕ → Option Candidate → Failure → Type 0
ToldInNot judged to skew moment seen spent (Refused error) = TurnsTold judged to skew moment seen spent error
ToldInNot judged to skew moment seen spent (Room count) = ⊥
ToldInNot judged to skew moment seen spent Argument = ⊥
ToldInNot judged to skew moment seen spent Handle = IsMisplaced judged to × (spent ≡ judged)
