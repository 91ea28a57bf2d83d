-- The authorization data of a client's ticket (RFC 4120, section 5.2.6), an element at a time.
use Rattle.std.specs.Prelude.{◌≡◌, ◌⊎◌, ℕ, ℤ, List, [], Option, Some, None, option_map, FitsSigned}
use Rattle.std.specs.Int.{w32}
use Rattle.krb_authorization.specs.Elements.{ElementAt}
use Rattle.krb_c.specs.declared.reply.Failure.{Failure}
use Rattle.krb_c.specs.declared.reply.Failure.TheVariants.{Refused, Room, Argument, Handle}
use Rattle.krb_der.specs.Integer.{integer_value}
use Rattle.krb_entrance.specs.declared.candidate.Candidate.{Candidate}
use Rattle.krb_messages.specs.declared.authorization_data.AuthorizationDataElement.{AuthorizationDataElement}
use Rattle.krb_sessions.specs.declared.client.Client.{Client}
use Rattle.krb_sessions.specs.Gives.{Delivers, IsShort}
use Rattle.sspi_core.specs.declared.cause.Cause.TheVariants.{Memory, Shape}
use Rattle.sspi_core.specs.declared.error.Error.{Error}
use Rattle.sspi_core.specs.Kinds.{error_of}

-- the elements of a client's ticket, which may have none
abbrev pub elements_in : Option (List AuthorizationDataElement) → List AuthorizationDataElement
elements_in None = []
elements_in (Some elements) = elements

-- the client of a candidate
abbrev pub judged_client : Option Candidate → Option Client
judged_client judged = option_map (λ candidate. candidate.client.value) judged

-- the element at a place, counted from 0, where each AD-IF-RELEVANT counts as the elements inside it (5.2.6.1)
abbrev pub HasElement : Client → ℕ → Option AuthorizationDataElement → Type 0
HasElement client place element = ElementAt (elements_in client.authorization_data) place element

-- a client is there whose ticket has this element
pub record IsElement (found : Option Client) (place : ℕ) (element : AuthorizationDataElement) : Type 0 where
  pub client : Client
  pub known : found ≡ Some client
  pub at : HasElement client place (Some element)

-- a client is there whose ticket has fewer elements
pub record IsPastLast (found : Option Client) (place : ℕ) : Type 0 where
  pub client : Client
  pub known : found ≡ Some client
  pub none : HasElement client place None

-- the octets of an element
abbrev pub IsDataOf : AuthorizationDataElement → List ℕ → Type 0
IsDataOf element octets = octets ≡ element.ad_data

-- the type and the octets of the element are returned
pub record ReturnsElement (found : Option Client) (place : ℕ) (room : List ℕ) (count : ℕ) (type : ℤ) (out : List ℕ) : Type 0 where
  pub element : AuthorizationDataElement
  pub is : IsElement found place element
  pub type_is : integer_value element.ad_type ≡ type
  pub delivers : Delivers (IsDataOf element) room count out

-- its type is no Int32 (5.2.4)
pub record HasNoType (found : Option Client) (place : ℕ) (error : Error) : Type 0 where
  pub element : AuthorizationDataElement
  pub is : IsElement found place element
  pub wide : FitsSigned w32 (integer_value element.ad_type) → ⊥
  pub error_is : error ≡ error_of Shape

-- the buffer is too short for its octets
pub record IsShortFor (found : Option Client) (place room count : ℕ) : Type 0 where
  pub element : AuthorizationDataElement
  pub is : IsElement found place element
  pub is_short : IsShort (IsDataOf element) room count

-- why no element is found: memory ran out, or the ticket has fewer
abbrev pub FindsNone : Option Client → ℕ → Failure → Type 0
FindsNone found place (Refused error) = error ≡ error_of Memory
FindsNone found place (Room count) = ⊥
FindsNone found place Argument = IsPastLast found place
FindsNone found place Handle = ⊥

-- why no element is returned: its type is no Int32, memory ran out, the buffer is too short, the ticket has fewer elements, or there is no
-- client
abbrev pub ReturnsNone : Option Client → ℕ → ℕ → Failure → Type 0
ReturnsNone found place room (Refused error) = HasNoType found place error ⊎ (error ≡ error_of Memory)
ReturnsNone found place room (Room count) = IsShortFor found place room count
ReturnsNone found place room Argument = IsPastLast found place
ReturnsNone found place room Handle = found ≡ None
