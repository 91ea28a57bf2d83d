-- The admission of a client in one call.
use Rattle.std.specs.Prelude.{◌≡◌, ◌⊎◌, ℕ, List, [], Option, Some, true, false, Result, Ok, Err}
use Rattle.std.specs.Global.{Box}
use Rattle.krb_admission.specs.Clients.{user_of, has_component}
use Rattle.krb_admission.specs.declared.admission.Answer.{Answer}
use Rattle.krb_admission.specs.declared.request.Request.{Request}
use Rattle.krb_conf.specs.declared.env.Env.{Env}
use Rattle.krb_context.specs.declared.context.Kerberos.{Kerberos}
use Rattle.krb_context.specs.declared.server.ServerProperties.{ServerProperties}
use Rattle.krb_context.specs.Queries.{name_of}
use Rattle.krb_context.specs.Rules.{rfc_rules}
use Rattle.krb_entrance.specs.Candidates.{Passes, Stops, IsLetIn, TurnsAway, client_told}
use Rattle.krb_entrance.specs.Connections.{Waits}
use Rattle.krb_entrance.specs.declared.candidate.Candidate.{Candidate}
use Rattle.krb_entrance.specs.declared.keys.Keys.{Keys}
use Rattle.krb_replay.specs.Book.{Book, Follows, StandsFor}
use Rattle.krb_server.specs.Whole.{AcceptsWhole}
use Rattle.krb_server.specs.declared.accept.Accepted.{Accepted}
use Rattle.krb_server.specs.declared.accept.Accepted.TheVariants.{Done, Run}
use Rattle.krb_sessions.specs.declared.client.Client.{Client}
use Rattle.krb_sessions.specs.declared.session.Session.{Session}
use Rattle.sspi_core.specs.declared.cause.Cause.{Cause}
use Rattle.sspi_core.specs.declared.cause.Cause.TheVariants.{Credentials}
use Rattle.sspi_core.specs.declared.draw.Draw.{Draw}
use Rattle.sspi_core.specs.Usernames.{UserName}

-- the token passes all checks: those before the book, the book's, and those after it
pub record Admits (keys : Keys) (channel : Option (List ℕ)) (token : List ℕ) (draw : Draw) (old : Book) (session : Session) (new : Book) : Type 0 where
  pub candidate : Candidate
  pub passes : Passes keys channel token draw candidate.judged candidate.connection
  pub client : candidate.client.value ≡ client_told candidate.judged.request
  pub let_in : IsLetIn candidate old session new

-- a check before the book refuses it, and the book is as before
pub record StopsBefore (keys : Keys) (channel : Option (List ℕ)) (token : List ℕ) (draw : Draw) (old new : Book) (answer : Result Answer Cause) : Type 0 where
  pub cause : Cause
  pub answer_is : answer ≡ Err cause
  pub stops : Stops keys channel token draw (Err cause)
  pub book_stays : new ≡ old

-- the book refuses it, or a check after it, and the book is as that leaves it
pub record StopsAfter (keys : Keys) (channel : Option (List ℕ)) (token : List ℕ) (draw : Draw) (old new : Book) (answer : Result Answer Cause) : Type 0 where
  pub candidate : Candidate
  pub passes : Passes keys channel token draw candidate.judged candidate.connection
  pub turns : TurnsAway candidate old new answer

-- it is refused so
abbrev pub Rejects : Keys → Option (List ℕ) → List ℕ → Draw → Book → Book → Result Answer Cause → Type 0
Rejects keys channel token draw old new answer = StopsBefore keys channel token draw old new answer ⊎ StopsAfter keys channel token draw old new answer

-- no variable and no file
abbrev pub no_env : Env
no_env = record { vars = []; files = [] }

-- the token that goes back to a client; a TGT-REQ asks for a ticket of the service's own, which it has no credentials to fetch
abbrev pub answer_in : Result Accepted Cause → Result (List ℕ) Cause
answer_in (Ok (Done status answer admits)) = Ok answer
answer_in (Ok (Run run)) = Err Credentials
answer_in (Err cause) = Err cause

-- the result of the acceptor's one call for a token at a connection of the services, the question to the book among its checks
pub record Judges (services : ServerProperties) (channel : Option (List ℕ)) (old : Book) (token : List ℕ) (draw : Draw) (answer : Result (List ℕ) Cause)
    (connection : Kerberos) (new : Book) : Type 0 where
  pub waiting : Kerberos
  pub waits : Waits services channel draw waiting
  pub accepted : Result Accepted Cause
  pub accepts : AcceptsWhole (Follows StandsFor) waiting false token no_env draw old accepted connection new
  pub answer_is : answer ≡ answer_in accepted

-- a session's client is known: by its whole name, which is that of the ticket, and by a user name where it has one
pub record IsKnown (session : Session) : Type 0 where
  pub request : Request
  pub client : Box Client
  pub kept : session.client ≡ Some client
  pub told : client.value ≡ client_told request
  pub named : has_component client.value.name.name_string ≡ true
  pub user : (name : UserName) → user_of rfc_rules request.authenticator.cname request.authenticator.crealm ≡ Some name → name_of session.connection ≡ Ok name
