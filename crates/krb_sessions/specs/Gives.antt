-- The octets that a session returns, and how they are put into a caller's buffer.
use Rattle.std.specs.Prelude.{◌≡◌, ℕ, ◌<◌, List, ◌∷◌, ◌++◌, length, drop, Some, None, Result, Ok}
use Rattle.krb_context.specs.declared.context.Kerberos.{Kerberos}
use Rattle.krb_context.specs.Contexts.{next_number}
use Rattle.krb_context.specs.Params.{key_of}
use Rattle.krb_context.specs.Queries.{name_of}
use Rattle.krb_context.specs.Refusals.{Refuses}
use Rattle.krb_context.specs.Spelled.{part_octets}
use Rattle.krb_context.specs.Unwraps.{message_number}
use Rattle.krb_context.specs.Whole.{whole_message, text_message}
use Rattle.krb_context.specs.Window.{noted}
use Rattle.krb_context.specs.Wraps.{Wraps}
use Rattle.krb_sessions.specs.declared.fault.Fault.{Fault}
use Rattle.krb_sessions.specs.declared.fault.Fault.TheVariants.{Refused, Room}
use Rattle.sspi_core.specs.declared.buffer.Part.TheVariants.{Token, Plain}
use Rattle.sspi_core.specs.declared.cause.Cause.{Cause}
use Rattle.sspi_core.specs.declared.error.Place.{Place}
use Rattle.sspi_core.specs.Buffer.{Buffer}
use Rattle.sspi_core.specs.Usernames.{UserName, UserPrincipal, DownLevel, backslash, upn_text}

-- octets of this kind are at the front of the buffer, and this is their number
pub record Delivers (gives : List ℕ → Type 0) (old : List ℕ) (count : ℕ) (new : List ℕ) : Type 0 where
  pub octets : List ℕ
  pub given : gives octets
  pub counted : count ≡ length octets
  pub put : new ≡ octets ++ drop (length octets) old

-- octets of this kind have this number, and the buffer is shorter
pub record IsShort (gives : List ℕ → Type 0) (room count : ℕ) : Type 0 where
  pub octets : List ℕ
  pub given : gives octets
  pub counted : count ≡ length octets
  pub short : room < count

-- the checks refuse, or the buffer is too short for the octets
abbrev pub Faults : {A : Type 0} → Place → (Result A Cause → Type 0) → (List ℕ → Type 0) → ℕ → Fault → Type 0
Faults place checks gives room (Refused error) = Refuses place checks error
Faults place checks gives room (Room count) = IsShort gives room count

-- a name as text
abbrev pub name_text : UserName → List ℕ
name_text (UserPrincipal account suffix) = upn_text account suffix
name_text (DownLevel account None) = account
name_text (DownLevel account (Some domain)) = domain ++ backslash ∷ account

-- the text of the client's name
pub record IsNamed (context : Kerberos) (text : List ℕ) : Type 0 where
  pub name : UserName
  pub known : name_of context ≡ Ok name
  pub written : text ≡ name_text name

-- the key of the context's messages
abbrev pub IsKey : Kerberos → List ℕ → Type 0
IsKey context octets = key_of context.encryption_params ≡ Some octets

-- a message that the context encrypts, as it is sent
pub record IsWrapped (context : Kerberos) (confounder text octets : List ℕ) : Type 0 where
  pub made : List Buffer
  pub wraps : Wraps context confounder (text_message context.encryption_params.ec text) (Ok made)
  pub joined : octets ≡ part_octets Token made ++ part_octets Plain made

-- the context after it made a message or a MIC token
abbrev pub after_making : Kerberos → Kerberos
after_making context = record context { seq_number = next_number context.seq_number }

-- the context after it decrypted a message
abbrev pub after_opening : List ℕ → Kerberos → Kerberos
after_opening sealed context = record context { window = noted context.window (message_number (whole_message sealed)) }
