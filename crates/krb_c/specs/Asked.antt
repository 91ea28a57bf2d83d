-- The flags that a client asked for, and the flags of its ticket, by the results of the calls.
use Rattle.std.specs.Prelude.{◌≡◌, ℕ, List, [], ◌∷◌, ◌++◌, take, Option, Some, None}
use Rattle.std.specs.Int.{w32, from_be_bytes}
use Rattle.krb_admission.specs.Allowed.{gss_flags, delegation_told}
use Rattle.krb_admission.specs.Requests.{tag_of}
use Rattle.krb_c.specs.declared.reply.Failure.{Failure}
use Rattle.krb_c.specs.declared.reply.Failure.TheVariants.{Refused, Room, Argument, Handle}
use Rattle.krb_c.specs.Told.{ShowsShort}
use Rattle.krb_c.specs.Tells.{client_of}
use Rattle.krb_entrance.specs.declared.candidate.Candidate.{Candidate}
use Rattle.krb_sessions.specs.declared.client.Client.{Client}
use Rattle.krb_sessions.specs.declared.session.Session.{Session}
use Rattle.sspi_core.specs.declared.cause.Cause.TheVariants.{Checksum}
use Rattle.sspi_core.specs.declared.error.Error.{Error}
use Rattle.sspi_core.specs.Kinds.{error_of}

-- the GSS flags that a candidate asked for, and an admitted client
abbrev pub candidate_flags : Candidate → Option ℕ
candidate_flags candidate = gss_flags candidate.judged.request.authenticator.cksum

abbrev pub client_flags : Client → Option ℕ
client_flags client = client.gss_flags

-- somebody is there who asked for these
pub record AsksFor {A : Type 0} (asks : A → Option ℕ) (found : Option A) (flags : ℕ) : Type 0 where
  pub one : A
  pub was : found ≡ Some one
  pub asked : asks one ≡ Some flags

-- somebody is there whose checksum has no flags
pub record AsksForNone {A : Type 0} (asks : A → Option ℕ) (found : Option A) (error : Error) : Type 0 where
  pub one : A
  pub was : found ≡ Some one
  pub none : asks one ≡ None
  pub error_is : error ≡ error_of Checksum

-- why no flags are returned
abbrev pub AsksNot : {A : Type 0} → (A → Option ℕ) → Option A → Failure → Type 0
AsksNot asks found (Refused error) = AsksForNone asks found error
AsksNot asks found (Room count) = ⊥
AsksNot asks found Argument = ⊥
AsksNot asks found Handle = found ≡ None

-- the first 32 flags of a bit string as a number, bit 0 the highest; those that are not there are 0 (RFC 4120, section 5.2.8)
abbrev pub flags_number : List ℕ → ℕ
flags_number octets = from_be_bytes w32 (take 4 (octets ++ 0 ∷ 0 ∷ 0 ∷ 0 ∷ []))

-- the flags of the client's ticket are returned
pub record TellsTicketFlags (session : Option Session) (flags : ℕ) : Type 0 where
  pub client : Client
  pub known : client_of session ≡ Some client
  pub told : flags ≡ flags_number client.flags.octets

-- the tag of the candidate's authenticator
abbrev pub IsTag : Candidate → List ℕ → Type 0
IsTag candidate octets = octets ≡ tag_of candidate.judged.request

-- the KRB-CRED with which the candidate delegates a ticket of its own (RFC 4121, section 4.1.1)
abbrev pub IsDelegation : Candidate → List ℕ → Type 0
IsDelegation candidate octets = octets ≡ delegation_told candidate.judged.request.authenticator.cksum

-- why octets of the candidate's, which are there, are not returned
abbrev pub LendsNot : (Candidate → List ℕ → Type 0) → Option Candidate → ℕ → Failure → Type 0
LendsNot gives judged room (Refused error) = ⊥
LendsNot gives judged room (Room count) = ShowsShort gives judged room count
LendsNot gives judged room Argument = ⊥
LendsNot gives judged room Handle = judged ≡ None
