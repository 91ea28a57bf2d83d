-- The messages that the connections of a service decrypted, by lists that never forget (krb_context: specs/Places.antt): one list of
-- places for each connection. RFC 2743, section 1.2.3: a repetition is reported, and so is a message that is too old to judge.
use Rattle.std.specs.Prelude.{◌≡◌, ℕ, ◌==◌, ℤ, List, [], ◌∷◌, Some, if◌then◌else◌}
use Rattle.krb_aes.specs.Octets.{IsOctets}
use Rattle.krb_context.specs.Places.{verdict_of, opened}
use Rattle.krb_context.specs.Spelled.{spelled}
use Rattle.krb_context.specs.Unwraps.{message_number}
use Rattle.krb_context.specs.Window.{StandsFor}
use Rattle.krb_context.specs.declared.window.NumberVerdict.TheVariants.{Fresh, Old, Repeated}
use Rattle.krb_script.specs.Script.{at_id}
use Rattle.krb_script.specs.declared.item.Event.{Event}
use Rattle.krb_script.specs.declared.input.Input.{Input}
use Rattle.krb_script.specs.declared.input.Input.TheVariants.{Token, Start, KdcReply, KdcFault, Wrap, Unwrap, MakeMic, VerifyMic}
use Rattle.sspi_core.specs.Buffer.{Buffer}
use Rattle.sspi_core.specs.Kinds.{error_of}
use Rattle.sspi_core.specs.declared.cause.Cause.TheVariants as causes
use Rattle.krb_machine.specs.Policy.{State}
use Rattle.krb_machine.specs.declared.connection.Connection.{Connection}
use Rattle.krb_machine.specs.declared.reply.Reply.{Reply}
use Rattle.krb_machine.specs.declared.reply.Reply.TheVariants.{Done, Ask, Buffers, Mic, Verified, Refused}

-- the places of the messages that each connection decrypted, by the connections' numbers
abbrev pub Lists : Type 0
Lists = ℕ → List ℤ

-- the window of each connection represents its list
abbrev pub StandFor : {G : Type 0} → State G → Lists → Type 0
StandFor state lists = (id : ℕ) (connection : Connection) → at_id id state.connections ≡ Some connection → StandsFor connection.context.window (lists id)

-- the reply to a message that was to be decrypted, by the list: the buffers only if the sequence number is fresh, and a refusal as
-- old or repeated only if it is so
abbrev pub IsAnsweredBy : List ℤ → List Buffer → Reply → Type 0
IsAnsweredBy places message (Buffers text) = verdict_of places (message_number message) ≡ Fresh
IsAnsweredBy places message (Refused error) =
    (error ≡ error_of causes.Old → verdict_of places (message_number message) ≡ Old)
    × (error ≡ error_of causes.Repeated → verdict_of places (message_number message) ≡ Repeated)
IsAnsweredBy places message (Done status token admits) = ⊥
IsAnsweredBy places message (Ask request) = ⊥
IsAnsweredBy places message (Mic token) = ⊥
IsAnsweredBy places message Verified = ⊥

abbrev pub IsJudgedBy : List ℤ → Input → Reply → Type 0
IsJudgedBy places (Unwrap message) reply = IsAnsweredBy places message reply
IsJudgedBy places (Token octets) reply = Unit {0}
IsJudgedBy places Start reply = Unit {0}
IsJudgedBy places (KdcReply octets) reply = Unit {0}
IsJudgedBy places (KdcFault code) reply = Unit {0}
IsJudgedBy places (Wrap message) reply = Unit {0}
IsJudgedBy places (MakeMic payload) reply = Unit {0}
IsJudgedBy places (VerifyMic token payload) reply = Unit {0}

-- the list after a message: the place of a message that was decrypted is appended
abbrev pub with_message : List ℤ → List Buffer → Reply → List ℤ
with_message places message (Buffers text) = opened places (message_number message)
with_message places message (Refused error) = places
with_message places message (Done status token admits) = places
with_message places message (Ask request) = places
with_message places message (Mic token) = places
with_message places message Verified = places

abbrev pub list_after : List ℤ → Input → Reply → List ℤ
list_after places (Unwrap message) reply = with_message places message reply
list_after places (Token octets) reply = places
list_after places Start reply = places
list_after places (KdcReply octets) reply = places
list_after places (KdcFault code) reply = places
list_after places (Wrap message) reply = places
list_after places (MakeMic payload) reply = places
list_after places (VerifyMic token payload) reply = places

abbrev pub lists_after : Lists → Event → Reply → Lists
lists_after lists event reply id = if event.connection == id then list_after (lists id) event.input reply else lists id

-- the lists after a run, and each message judged by the list of its connection at the time
abbrev pub lists_behind : Lists → List Event → List Reply → Lists
lists_behind lists [] replies = lists
lists_behind lists (event ∷ events) [] = lists
lists_behind lists (event ∷ events) (reply ∷ replies) = lists_behind (lists_after lists event reply) events replies

abbrev pub AreJudgedBy : Lists → List Event → List Reply → Type 0
AreJudgedBy lists [] replies = Unit {0}
AreJudgedBy lists (event ∷ events) [] = Unit {0}
AreJudgedBy lists (event ∷ events) (reply ∷ replies) =
    IsJudgedBy (lists event.connection) event.input reply × AreJudgedBy (lists_after lists event reply) events replies

-- a message to decrypt consists of octets
abbrev pub BringsOctets : Input → Type 0
BringsOctets (Unwrap message) = IsOctets (spelled message)
BringsOctets (Token octets) = Unit {0}
BringsOctets Start = Unit {0}
BringsOctets (KdcReply octets) = Unit {0}
BringsOctets (KdcFault code) = Unit {0}
BringsOctets (Wrap message) = Unit {0}
BringsOctets (MakeMic payload) = Unit {0}
BringsOctets (VerifyMic token payload) = Unit {0}

abbrev pub BringOctets : List Event → Type 0
BringOctets [] = Unit {0}
BringOctets (event ∷ events) = BringsOctets event.input × BringOctets events
