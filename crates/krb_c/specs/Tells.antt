-- The facts in the ticket of an admitted client, by the results of the calls.
use Rattle.std.specs.Prelude.{◌≡◌, ℕ, List, length, ℤ, pos, Option, Some, None, option_map, option_and_then}
use Rattle.krb_c.specs.declared.reply.Failure.{Failure}
use Rattle.krb_c.specs.declared.reply.Failure.TheVariants.{Refused, Room, Argument, Handle}
use Rattle.krb_c.specs.declared.tells.Times.{Times}
use Rattle.krb_sessions.specs.declared.client.Client.{Client}
use Rattle.krb_sessions.specs.declared.session.Session.{Session}
use Rattle.krb_sessions.specs.Gives.{Delivers, IsShort}
use Rattle.krb_sessions.specs.Principals.{principal_text}
use Rattle.sspi_core.specs.declared.cause.Cause.TheVariants.{Memory}
use Rattle.sspi_core.specs.Kinds.{error_of}

-- the client of a session; an initiator's session has none
abbrev pub client_in : Session → Option Client
client_in session = option_map (λ client. client.value) session.client

abbrev pub client_of : Option Session → Option Client
client_of found = option_and_then client_in found

-- the client's whole name as text
abbrev pub IsPrincipal : Client → List ℕ → Type 0
IsPrincipal client text = text ≡ principal_text client.name.name_string client.realm

-- why the name is not put into a buffer
abbrev pub PrincipalNot : Client → ℕ → Failure → Type 0
PrincipalNot client room (Refused error) = error ≡ error_of Memory
PrincipalNot client room (Room count) = IsShort (IsPrincipal client) room count
PrincipalNot client room _ = ⊥

-- octets of the client's go into the buffer
pub record Tells (gives : Client → List ℕ → Type 0) (session : Option Session) (room : List ℕ) (count : ℕ) (out : List ℕ) : Type 0 where
  pub client : Client
  pub known : client_of session ≡ Some client
  pub delivers : Delivers (gives client) room count out

-- the buffer is too short for them
pub record TellsShort (gives : Client → List ℕ → Type 0) (session : Option Session) (room count : ℕ) : Type 0 where
  pub client : Client
  pub known : client_of session ≡ Some client
  pub is_short : IsShort (gives client) room count

-- why they are not returned
abbrev pub TellsNot : (Client → List ℕ → Type 0) → Option Session → ℕ → Failure → Type 0
TellsNot gives session room (Refused error) = error ≡ error_of Memory
TellsNot gives session room (Room count) = TellsShort gives session room count
TellsNot gives session room Argument = ⊥
TellsNot gives session room Handle = client_of session ≡ None

-- the KRB-CRED with which the client delegated a ticket of its own (RFC 4121, section 4.1.1)
abbrev pub IsHandedOn : Client → List ℕ → Type 0
IsHandedOn client octets = octets ≡ client.delegation

-- the last twelve octets of the encrypted authenticator, by which the client was admitted
abbrev pub IsClientTag : Client → List ℕ → Type 0
IsClientTag client octets = octets ≡ client.tag

-- why octets of the client's, which are there, are not returned
abbrev pub LendsNoneOf : (Client → List ℕ → Type 0) → Option Session → ℕ → Failure → Type 0
LendsNoneOf gives session room (Refused error) = ⊥
LendsNoneOf gives session room (Room count) = TellsShort gives session room count
LendsNoneOf gives session room Argument = ⊥
LendsNoneOf gives session room Handle = client_of session ≡ None

-- why the KRB-CRED is not returned
abbrev pub HandsOnNot : Option Session → ℕ → Failure → Type 0
HandsOnNot session room (Refused error) = ⊥
HandsOnNot session room (Room count) = TellsShort IsHandedOn session room count
HandsOnNot session room Argument = ⊥
HandsOnNot session room Handle = client_of session ≡ None

abbrev pub or_time : Option ℤ → ℤ → ℤ
or_time None other = other
or_time (Some time) other = time

-- the times of the ticket; without a start it is valid from `authtime` on; 0 is no renewal
abbrev pub times_of : Client → Times
times_of client = record {
  authtime = client.authtime;
  starttime = or_time client.starttime client.authtime;
  endtime = client.endtime;
  renew_till = or_time client.renew_till (pos 0);
}

-- the times are returned
pub record TellsTimes (session : Option Session) (count : ℕ) (out : Times) : Type 0 where
  pub client : Client
  pub known : client_of session ≡ Some client
  pub told : out ≡ times_of client
  pub none_written : count ≡ 0
