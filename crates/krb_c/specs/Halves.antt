-- The halves of an admission, by what their calls answer: the checks before the book, and the book's question.
use Rattle.std.specs.Prelude.{◌≡◌, ◌⊎◌, ℕ, false, List, length, Option, Some, None, Result, Ok}
use Rattle.krb_c.specs.declared.reply.Failure.{Failure}
use Rattle.krb_c.specs.declared.reply.Failure.TheVariants.{Refused, Room, Argument, Handle}
use Rattle.krb_c.specs.Failures.{IsMisplaced}
use Rattle.krb_context.specs.Refusals.{Refuses}
use Rattle.krb_authenticators.specs.Bindings.{bindings_hash}
use Rattle.krb_dialogue.specs.Settings.{data_bindings}
use Rattle.krb_entrance.specs.declared.candidate.Candidate.{Candidate}
use Rattle.krb_entrance.specs.declared.keys.Keys.{Keys}
use Rattle.krb_entrance.specs.declared.service.Service.{Service}
use Rattle.krb_entrance.specs.Channels.{are_short}
use Rattle.krb_entrance.specs.Candidates.{Passes, Stops, IsLetIn, TurnsAway, client_told}
use Rattle.krb_replay.specs.Book.{IsUnchanged}
use Rattle.krb_sessions.specs.declared.session.Session.{Session}
use Rattle.krb_sessions.specs.Gives.{Delivers, IsShort}
use Rattle.sspi_core.specs.declared.cause.Cause.TheVariants.{Memory}
use Rattle.sspi_core.specs.declared.draw.Draw.{Draw}
use Rattle.sspi_core.specs.declared.error.Error.{Error}
use Rattle.sspi_core.specs.declared.error.Place.TheVariants.{Elsewhere}
use Rattle.sspi_core.specs.Kinds.{error_of}

-- a client whose token passed every check before the book, held to its channel where there is one, with what its token says of it
pub record IsCandidate (keys : Keys) (channel : Option (List ℕ)) (token : List ℕ) (draw : Draw) (candidate : Candidate) : Type 0 where
  pub passes : Passes keys channel token draw candidate.judged candidate.connection
  pub client : candidate.client.value ≡ client_told candidate.judged.request

-- the hash of a channel's bindings, of which the caller has data as an initiator is bound to
abbrev pub channel_of : List ℕ → List ℕ
channel_of octets = bindings_hash (data_bindings octets)

-- the candidate of a token, in a handle that was empty
pub record JudgesTo (channel : Option (List ℕ)) (token : List ℕ) (draw : Draw) (acceptor : Option Service) (to : Option Candidate) (count : ℕ)
    (made : Option Candidate) : Type 0 where
  pub service : Service
  pub candidate : Candidate
  pub was : acceptor ≡ Some service
  pub was_empty : to ≡ None
  pub made_is : made ≡ Some candidate
  pub is_candidate : IsCandidate service.keys channel token draw candidate
  pub none_written : count ≡ 0

-- a check before the book refuses the token, the first that fails
pub record StopsToken (channel : Option (List ℕ)) (token : List ℕ) (draw : Draw) (acceptor : Option Service) (to : Option Candidate) (error : Error) : Type 0 where
  pub service : Service
  pub was : acceptor ≡ Some service
  pub was_empty : to ≡ None
  pub refuses : Refuses Elsewhere (Stops service.keys channel token draw) error

-- why a token has no candidate
abbrev pub JudgesNot : Type 0 → Option (List ℕ) → List ℕ → Draw → Option Service → Option Candidate → Failure → Type 0
JudgesNot unfit channel token draw acceptor to (Refused error) = StopsToken channel token draw acceptor to error
JudgesNot unfit channel token draw acceptor to (Room count) = ⊥
JudgesNot unfit channel token draw acceptor to Argument = unfit
JudgesNot unfit channel token draw acceptor to Handle = IsMisplaced acceptor to

-- the data of a channel have over 2^24 octets
abbrev pub IsLong : List ℕ → Type 0
IsLong octets = are_short (data_bindings octets) ≡ false

-- the candidate is admitted: the book says so, and no check after it refuses
pub record LetsInTo (old : Option Service) (judged : Option Candidate) (to : Option Session) (count : ℕ) (new : Option Service)
    (spent : Option Candidate) (session : Option Session) : Type 0 where
  pub before : Service
  pub after : Service
  pub candidate : Candidate
  pub guest : Session
  pub was : old ≡ Some before
  pub now : new ≡ Some after
  pub was_judged : judged ≡ Some candidate
  pub is_spent : spent ≡ None
  pub was_empty : to ≡ None
  pub session_is : session ≡ Some guest
  pub is_let_in : IsLetIn candidate before.book guest after.book
  pub keys : after.keys ≡ before.keys
  pub counted : count ≡ length guest.answer

-- it is turned away, by the book or a check after it, and the book is as that check leaves it
pub record TurnsCandidate (old : Option Service) (judged : Option Candidate) (to : Option Session) (new : Option Service) (spent : Option Candidate)
    (error : Error) : Type 0 where
  pub before : Service
  pub after : Service
  pub candidate : Candidate
  pub was : old ≡ Some before
  pub now : new ≡ Some after
  pub was_judged : judged ≡ Some candidate
  pub is_spent : spent ≡ None
  pub was_empty : to ≡ None
  pub refuses : Refuses Elsewhere (TurnsAway candidate before.book after.book) error
  pub memory : error ≡ error_of Memory → IsUnchanged before.book after.book
  pub keys : after.keys ≡ before.keys

-- the book is not asked: `to` is not empty, or there is no acceptor, or no candidate
pub record IsUnasked (old : Option Service) (judged : Option Candidate) (to : Option Session) (new : Option Service) (spent : Option Candidate) : Type 0 where
  pub handles : to ≡ None → (old ≡ None) ⊎ (judged ≡ None)
  pub acceptor : new ≡ old
  pub candidate : spent ≡ judged

-- why a candidate is not admitted
abbrev pub LetsInNot : Option Service → Option Candidate → Option Session → Option Service → Option Candidate → Failure → Type 0
LetsInNot old judged to new spent (Refused error) = TurnsCandidate old judged to new spent error
LetsInNot old judged to new spent (Room count) = ⊥
LetsInNot old judged to new spent Argument = ⊥
LetsInNot old judged to new spent Handle = IsUnasked old judged to new spent
