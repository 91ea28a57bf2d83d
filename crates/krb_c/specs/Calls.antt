-- The effects of the calls on their handles, by the results of the calls.
use Rattle.std.specs.Prelude.{◌≡◌, true, ℕ, ◌≤◌, List, [], ◌∷◌, ◌++◌, length, Option, Some, None, Result, Ok, IfOk, IfErr, OnOk, OnErr}
use Rattle.krb_c.specs.declared.reply.Failure.{Failure}
use Rattle.krb_c.specs.declared.reply.Failure.TheVariants.{Refused, Room, Argument, Handle}
use Rattle.krb_c.specs.Codes.{kind_code, cause_code}
use Rattle.krb_c.specs.Failures.{has_key_length, IsMisplaced}
use Rattle.krb_c.specs.declared.accept.Moment.{Moment}
use Rattle.krb_context.specs.Refusals.{Refuses}
use Rattle.krb_context.specs.ServiceKeys.{new_properties, service_named, IsNotAscii}
use Rattle.krb_replay.specs.Book.{StandsFor, IsUnchanged}
use Rattle.krb_replay.specs.History.{no_history}
use Rattle.krb_entrance.specs.declared.service.Service.{Service}
use Rattle.krb_sessions.specs.declared.session.Session.{Session}
use Rattle.krb_entrance.specs.Admits.{Admits, Rejects}
use Rattle.krb_entrance.specs.Connections.{IsKeyless}
use Rattle.krb_sessions.specs.Gives.{Delivers, IsShort, after_making}
use Rattle.krb_sessions.specs.Orders.{VerifiesInOrder, RefusesMic, taken, verified}
use Rattle.krb_entrance.specs.Services.{components, token_limit}
use Rattle.sspi_core.specs.declared.cause.Cause.{Cause}
use Rattle.sspi_core.specs.declared.cause.Cause.TheVariants.{Memory}
use Rattle.sspi_core.specs.declared.draw.Draw.{Draw}
use Rattle.sspi_core.specs.declared.error.Error.{Error}
use Rattle.sspi_core.specs.declared.kind.ErrorKind.{ErrorKind}
use Rattle.sspi_core.specs.Printed.{kind_text, cause_name}
use Rattle.sspi_core.specs.declared.error.Place.{Place}
use Rattle.sspi_core.specs.declared.error.Place.TheVariants.{Elsewhere}
use Rattle.sspi_core.specs.Kinds.{error_of}

-- a service of this name and key, with an empty book
pub record IsNew (name key : List ℕ) (skew : ℕ) (service : Service) : Type 0 where
  pub properties : service.keys.properties ≡ new_properties (components name) None skew (Some key)
  pub limit : service.keys.token_limit ≡ token_limit
  pub skew_is : service.book.skew ≡ skew
  pub book : StandsFor service.book no_history

-- the acceptor that is made, if the handle was empty
pub record Makes (name key : List ℕ) (skew : ℕ) (old : Option Service) (count : ℕ) (new : Option Service) : Type 0 where
  pub service : Service
  pub was_empty : old ≡ None
  pub now : new ≡ Some service
  pub fits : has_key_length key ≡ true
  pub is_new : IsNew name key skew service
  pub none_written : count ≡ 0

-- a service without a name and a key, with an empty book
pub record IsBookAlone (skew : ℕ) (service : Service) : Type 0 where
  pub properties : service.keys.properties ≡ new_properties [] None skew None
  pub limit : service.keys.token_limit ≡ token_limit
  pub skew_is : service.book.skew ≡ skew
  pub book : StandsFor service.book no_history

pub record MakesBookAlone (skew : ℕ) (old : Option Service) (count : ℕ) (new : Option Service) : Type 0 where
  pub service : Service
  pub was_empty : old ≡ None
  pub now : new ≡ Some service
  pub is_book_alone : IsBookAlone skew service
  pub none_written : count ≡ 0

-- a further name with its key
pub record Adds (name key : List ℕ) (old : Option Service) (count : ℕ) (new : Option Service) : Type 0 where
  pub before : Service
  pub was : old ≡ Some before
  pub fits : has_key_length key ≡ true
  pub now : new ≡ Some (record before {
    keys = record before.keys {
      properties = record before.keys.properties {
        additional_service_keys = before.keys.properties.additional_service_keys ++ (service_named (components name), key) ∷ [];
      };
    };
  })
  pub none_written : count ≡ 0

-- the services and the records are as before; there may be more room for records
abbrev pub KeepsBook : Option Service → Option Service → Type 0
KeepsBook None new = new ≡ None
KeepsBook (Some before) new = (after : Service) × (new ≡ Some after) × IsUnchanged before.book after.book × (after.keys ≡ before.keys)

-- room for records of admitted clients
pub record Reserves (records : ℕ) (old : Option Service) (count : ℕ) (new : Option Service) : Type 0 where
  pub before : Service
  pub after : Service
  pub was : old ≡ Some before
  pub now : new ≡ Some after
  pub room : records ≤ after.book.spare
  pub book : IsUnchanged before.book after.book
  pub keys : after.keys ≡ before.keys
  pub none_written : count ≡ 0

-- a new, empty book with this skew
pub record BeginsBook (skew : ℕ) (old : Option Service) (count : ℕ) (new : Option Service) : Type 0 where
  pub before : Service
  pub after : Service
  pub was : old ≡ Some before
  pub now : new ≡ Some after
  pub skew_is : after.book.skew ≡ skew
  pub book : StandsFor after.book no_history
  pub keys : after.keys ≡ before.keys
  pub none_written : count ≡ 0

-- another limit of tokens
pub record LimitsTokens (most : ℕ) (old : Option Service) (count : ℕ) (new : Option Service) : Type 0 where
  pub before : Service
  pub was : old ≡ Some before
  pub now : new ≡ Some (record before { keys = record before.keys { token_limit = most } })
  pub none_written : count ≡ 0

-- the client is admitted: its token passes all checks of the acceptor's, in their order, and the one book among them. Its session has
-- what the token said of the client (`client_told`), and no key of the acceptor's
pub record AdmitsTo (token : List ℕ) (draw : Draw) (old : Option Service) (to : Option Session) (count : ℕ) (new : Option Service)
    (session : Option Session) : Type 0 where
  pub before : Service
  pub after : Service
  pub guest : Session
  pub was : old ≡ Some before
  pub now : new ≡ Some after
  pub was_empty : to ≡ None
  pub session_is : session ≡ Some guest
  pub admits : Admits before.keys None token draw before.book guest after.book
  pub keyless : IsKeyless guest.connection
  pub keys : after.keys ≡ before.keys
  pub counted : count ≡ length guest.answer

-- it is refused by the first check that fails, and the book is as that check leaves it
pub record RefusesToken (token : List ℕ) (draw : Draw) (old : Option Service) (to : Option Session) (new : Option Service) (error : Error) : Type 0 where
  pub before : Service
  pub after : Service
  pub was : old ≡ Some before
  pub was_empty : to ≡ None
  pub now : new ≡ Some after
  pub refuses : Refuses Elsewhere (Rejects before.keys None token draw before.book after.book) error
  pub memory : error ≡ error_of Memory → IsUnchanged before.book after.book
  pub keys : after.keys ≡ before.keys

-- why a client is not admitted, and what is left of the acceptor
abbrev pub Turns : Type 0 → List ℕ → Draw → Option Service → Option Session → Option Service → Failure → Type 0
Turns unfit token draw old to new (Refused error) = RefusesToken token draw old to new error
Turns unfit token draw old to new (Room count) = ⊥
Turns unfit token draw old to new Argument = unfit × (new ≡ old)
Turns unfit token draw old to new Handle = IsMisplaced old to × (new ≡ old)

-- octets of the session's go into the buffer
pub record Serves (gives : Session → List ℕ → Type 0) (after : Session → Session) (old : Option Session) (room : List ℕ) (count : ℕ)
    (new : Option Session) (out : List ℕ) : Type 0 where
  pub session : Session
  pub was : old ≡ Some session
  pub now : new ≡ Some (after session)
  pub delivers : Delivers (gives session) room count out

-- the session refuses
pub record SessionRefuses {A : Type 0} (place : Place) (checks : Session → Result A Cause → Type 0) (old : Option Session) (error : Error) : Type 0 where
  pub session : Session
  pub was : old ≡ Some session
  pub refuses : Refuses place (checks session) error

-- the buffer is too short for the octets that the session returns
pub record SessionIsShort (gives : Session → List ℕ → Type 0) (old : Option Session) (room count : ℕ) : Type 0 where
  pub session : Session
  pub was : old ≡ Some session
  pub is_short : IsShort (gives session) room count

-- why the octets are not returned: an argument is unfit, the session refuses, the buffer is too short, or there is no session
abbrev pub ServesNot : {A : Type 0} → Type 0 → Place → (Session → Result A Cause → Type 0) → (Session → List ℕ → Type 0) → Option Session → ℕ
    → Failure → Type 0
ServesNot unfit place checks gives old room (Refused error) = SessionRefuses place checks old error
ServesNot unfit place checks gives old room (Room count) = SessionIsShort gives old room count
ServesNot unfit place checks gives old room Argument = unfit
ServesNot unfit place checks gives old room Handle = old ≡ None

-- the number of records that an acceptor keeps
abbrev pub kept_of : Option Service → ℕ
kept_of None = 0
kept_of (Some service) = length service.book.kept

-- a moment of C's as the library has it
abbrev pub draw_of : Moment → Draw
draw_of moment = record { moment = moment.moment; random = moment.random }

-- the session after a call that changes nothing of it, after one that makes a token, and after one that decrypts a token
abbrev pub same : Session → Session
same session = session

abbrev pub made : Session → Session
made session = record session { connection = after_making session.connection }

abbrev pub opened : List ℕ → Session → Session
opened token session = taken token session

-- the token is the client's, over this payload, and the next one
pub record Verifies (token payload : List ℕ) (old : Option Session) (count : ℕ) (new : Option Session) : Type 0 where
  pub session : Session
  pub was : old ≡ Some session
  pub now : new ≡ Some (verified token session)
  pub checks : VerifiesInOrder session.order session.connection token payload (Ok tt)
  pub none_written : count ≡ 0

-- the token is none, by the first check that fails
pub record MicIsRefused (token payload : List ℕ) (old : Option Session) (error : Error) : Type 0 where
  pub session : Session
  pub was : old ≡ Some session
  pub refuses : RefusesMic session.order session.connection token payload error

-- why the token is not verified: it is none, or there is no session
abbrev pub VerifiesNot : List ℕ → List ℕ → Option Session → Failure → Type 0
VerifiesNot token payload old (Refused error) = MicIsRefused token payload old error
VerifiesNot token payload old (Room count) = ⊥
VerifiesNot token payload old Argument = ⊥
VerifiesNot token payload old Handle = old ≡ None

-- the name of the kind, or of a cause, with this number
abbrev pub IsKindName : ℕ → List ℕ → Type 0
IsKindName code text = (kind : ErrorKind) × (kind_code kind ≡ code) × (text ≡ kind_text kind)

abbrev pub IsCauseName : ℕ → List ℕ → Type 0
IsCauseName code text = (cause : Cause) × (cause_code cause ≡ code) × (text ≡ cause_name cause)

-- no kind, and no cause, has this number
abbrev pub HasNoKind : ℕ → Type 0
HasNoKind code = (kind : ErrorKind) → kind_code kind ≡ code → ⊥

abbrev pub HasNoCause : ℕ → Type 0
HasNoCause code = (cause : Cause) → cause_code cause ≡ code → ⊥

-- why a text is not returned: an argument is unfit, or the buffer is too short
abbrev pub NamesNot : Type 0 → (List ℕ → Type 0) → ℕ → Failure → Type 0
NamesNot unfit gives room (Refused error) = ⊥
NamesNot unfit gives room (Room count) = IsShort gives room count
NamesNot unfit gives room Argument = unfit
NamesNot unfit gives room Handle = ⊥
