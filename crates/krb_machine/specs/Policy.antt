-- The policy machine: the reply of a service to an event, and the service afterwards.
use Rattle.std.specs.Prelude.{◌≡◌, ℕ, nat_le, Bool, true, false, not, if◌then◌else◌, List, [], ◌∷◌, ◌++◌, Option, Some, None, is_some, is_none, Result, Ok, Err, IfErr}
use Rattle.std.specs.Ordering.{nat_cmp}
use Rattle.std.specs.BTreeMap.{is_at, insert_entry}
use Rattle.std.specs.Result.{result_map_both}
use Rattle.std.specs.Map.{set_value}
use Rattle.krb_conf.specs.declared.env.Env.{Env}
use Rattle.krb_context.specs.Contexts.{is_acceptor}
use Rattle.krb_context.specs.declared.context.Kerberos.{Kerberos}
use Rattle.krb_replay.specs.declared.ask.Ask.{Ask}
use Rattle.krb_replay.specs.declared.ask.Verdict.{Verdict}
use Rattle.krb_admission.specs.Accepts.{asks_dce_style, BeginsAdmission}
use Rattle.krb_admission.specs.declared.admission.Answer.{Answer}
use Rattle.krb_admission.specs.declared.request.Request.{Request}
use Rattle.krb_server.specs.Whole.{AcceptsWhole}
use Rattle.krb_server.specs.declared.accept.Accepted.{Accepted}
use Rattle.krb_server.specs.declared.accept.Accepted.TheVariants as taken
use Rattle.krb_machine.specs.declared.run.Run.{Run}
use Rattle.krb_machine.specs.declared.run.Run.TheVariants.{Accepts}
use Rattle.sspi_generator.specs.declared.network.NetFault.{NetFault}
use Rattle.krb_script.specs.Script.{at_id}
use Rattle.krb_script.specs.declared.item.Event.{Event}
use Rattle.krb_script.specs.declared.input.Input.{Input}
use Rattle.krb_script.specs.declared.input.Input.TheVariants.{Token, Start, KdcReply, KdcFault, Wrap, Unwrap, MakeMic, VerifyMic}
use Rattle.sspi_core.specs.Checks.{ok_or, told}
use Rattle.sspi_core.specs.Kinds.{error_of}
use Rattle.sspi_core.specs.Moments.{last_moment}
use Rattle.sspi_core.specs.declared.cause.Cause.{Cause}
use Rattle.sspi_core.specs.declared.cause.Cause.TheVariants as causes
use Rattle.sspi_core.specs.declared.draw.Draw.{Draw}
use Rattle.sspi_core.specs.declared.error.Error.{Error}
use Rattle.sspi_core.specs.declared.error.Place.TheVariants.{Elsewhere}
use Rattle.sspi_core.specs.declared.flags.ClientRequestFlags.{ClientRequestFlags}
use Rattle.sspi_core.specs.declared.flags.ServerRequestFlags.{ServerRequestFlags}
use Rattle.krb_machine.specs.declared.connection.Connection.{Connection}
use Rattle.krb_machine.specs.declared.reply.Reply.{Reply}
use Rattle.krb_machine.specs.declared.reply.Reply.TheVariants.{Done, Refused}
use Rattle.krb_machine.specs.MessageCalls.{is_call, Calls}
use Rattle.krb_machine.specs.Exchanges.{awaits, answer_of, OpensExchange, GoesOn}
use Rattle.krb_machine.specs.Initiations.{token_heard, options_of, Undertakes}

-- a service: its connections by their numbers, its environment, and its replay gate
pub record State (G : Type 0) : Type 0 where
  pub connections : List (ℕ × Connection)
  pub env : Env
  pub gate : G

-- go on with what was found: a `do` block over this is a function, whose value is its last line or the first refusal
infixl 10 ◌>>=◌
abbrev pub ◌>>=◌ : {A B : Type 0} → Result A Cause → (A → Result B Cause) → Result B Cause
Ok x >>= f = f x
Err cause >>= f = Err cause

-- nothing if the test holds, otherwise the refusal
abbrev pub check : Cause → Bool → Result (Unit {0}) Cause
check cause test = if test then Ok tt else Err cause

-- the token that an event brings
abbrev pub input_token : Input → Option (List ℕ)
input_token (Token octets) = Some octets
input_token Start = None
input_token (KdcReply octets) = None
input_token (KdcFault code) = None
input_token (Wrap message) = None
input_token (Unwrap message) = None
input_token (MakeMic payload) = None
input_token (VerifyMic token payload) = None

-- the first checks of an event: the moment is in range, and there is such a connection
abbrev pub called : List (ℕ × Connection) → Event → Result Connection Cause
called connections event = do
  in_range ← check causes.Moment (nat_le event.moment last_moment)
  ok_or causes.Connection (at_id event.connection connections)

-- the first checks of a call, and of an event that begins an exchange or goes on with the peer: also that the connection awaits no KDC
abbrev pub ready : List (ℕ × Connection) → Event → Result Connection Cause
ready connections event = do
  connection ← called connections event
  free ← check causes.Sequence (not (awaits connection))
  Ok connection

-- the connection with this number is an initiator's
abbrev pub is_initiating : Option Connection → Bool
is_initiating None = false
is_initiating (Some connection) = is_none connection.context.server

abbrev pub is_initiator : ℕ → List (ℕ × Connection) → Bool
is_initiator id connections = is_initiating (at_id id connections)

-- the first checks of an event of an exchange with the peer, at an acceptor: also that the connection is an acceptor's, and that the
-- event brings a token
abbrev pub reached : List (ℕ × Connection) → Event → Result (Connection × List ℕ) Cause
reached connections event = do
  connection ← ready connections event
  judges ← check causes.Sequence (is_acceptor connection.context)
  token ← ok_or causes.Sequence (input_token event.input)
  Ok (connection, token)

-- the first checks of an event of an exchange with the peer, at an initiator: also that its state allows the event
abbrev pub heard : List (ℕ × Connection) → Event → Result (Connection × List ℕ) Cause
heard connections event = do
  connection ← ready connections event
  token ← token_heard connection.context.state event.input
  Ok (connection, token)

-- the first checks of an answer of the network: the connection awaits it
abbrev pub awaited : List (ℕ × Connection) → Event → Result (Connection × Run) Cause
awaited connections event = do
  connection ← called connections event
  run ← ok_or causes.Sequence connection.exchange
  Ok (connection, run)

-- the flags of an event, of which an acceptor reads the two that it has
abbrev pub server_flags : ClientRequestFlags → ServerRequestFlags
server_flags flags = record { 0 = flags.0 }

-- the moment and the random octets that an event passes to the step
abbrev pub draw_of : Event → Draw
draw_of event = record { moment = event.moment; random = event.random }

-- the request that an event brings to the gate: its token passes the first checks, and the checks before the gate
pub record Brings (connections : List (ℕ × Connection)) (event : Event) (request : Request) : Type 0 where
  pub connection : Connection
  pub token : List ℕ
  pub reaches : reached connections event ≡ Ok (connection, token)
  pub begun : BeginsAdmission connection.context (asks_dce_style (server_flags event.flags)) token (Ok request)

-- the reply for an acceptor's answer
abbrev pub reply_of : Result Answer Cause → Reply
reply_of (Ok answer) = Done answer.status answer.token answer.admits
reply_of (Err cause) = Refused (error_of cause)

-- the reply and the connection after an acceptor's answer to a token; or the start of an exchange with a KDC, at a TGT-REQ
abbrev pub Settles : Draw → Connection → Result Accepted Error → Reply → Connection → Type 0
Settles draw connection (Ok (taken.Done status token admits)) reply next = (reply ≡ Done status token admits) × (next ≡ connection)
Settles draw connection (Ok (taken.Run run)) reply next = OpensExchange connection (Accepts run.value) draw reply next
Settles draw connection (Err error) reply next = (reply ≡ Refused error) × (next ≡ connection)

-- the number has a connection
abbrev pub is_taken : ℕ → List (ℕ × Connection) → Bool
is_taken id connections = is_some (at_id id connections)

-- the reason why a connection is not added: its number is taken, or it has the other role
abbrev pub refusal_to_add : Bool → Bool → Option Cause
refusal_to_add true fits = Some causes.Connection
refusal_to_add false false = Some causes.Role
refusal_to_add false true = None

-- a refusal with its cause; if nothing refuses, only `Memory` is a refusal
abbrev pub IsRefusedFor : {A : Type 0} → Option Cause → Result A Error → Type 0
IsRefusedFor (Some cause) result = result ≡ Err (error_of cause)
IsRefusedFor None result = IfErr result (λ e. e ≡ error_of causes.Memory)

-- the token that passes the first checks
abbrev pub token_reached : List (ℕ × Connection) → Event → Result (List ℕ) Cause
token_reached connections event = result_map_both (λ found. found.1) (λ cause. cause) (reached connections event)

abbrev pub token_for : List (ℕ × Connection) → Event → Result (List ℕ) Cause
token_for connections event = result_map_both (λ found. found.1) (λ cause. cause) (heard connections event)

-- a service with this connection at the number, which replaces the one at the number, if any
abbrev pub with_connection : {G : Type 0} → State G → ℕ → Connection → State G
with_connection state id connection = record state { connections = insert_entry nat_cmp state.connections id connection }

-- no caller can distinguish the second service from the first
pub record IsSameState {G : Type 0} (is_same : G → G → Type 0) (old new : State G) : Type 0 where
  pub connections : new.connections ≡ old.connections
  pub env : new.env ≡ old.env
  pub gate : is_same old.gate new.gate

-- a gate that returns this verdict, whatever it is asked, and is unchanged
abbrev pub Says : {G : Type 0} → Verdict → G → Ask → Verdict → G → Type 0
Says given old ask verdict new = (verdict ≡ given) × (new ≡ old)

-- a call is answered at a connection's context, and all else is unchanged
pub record CallsAt {G : Type 0} (state : State G) (event : Event) (connection : Connection) (reply : Reply) (after : State G) : Type 0 where
  pub context : Kerberos
  pub calls : Calls event.input connection.context event.random reply context
  pub connections : after.connections ≡ set_value (is_at (nat_cmp event.connection)) state.connections (record connection { context = context })
  pub env : after.env ≡ state.env
  pub gate : after.gate ≡ state.gate

-- a call after its first checks: their refusal leaves the service
abbrev pub AnswersCall : {G : Type 0} → State G → Event → Result Connection Cause → Reply → State G → Type 0
AnswersCall state event (Ok connection) reply after = CallsAt state event connection reply after
AnswersCall state event (Err cause) reply after = (reply ≡ Refused (error_of cause)) × (after ≡ state)

-- the exchange of a connection takes the answer of the network, and all else is unchanged
pub record Resumes {G : Type 0} (state : State G) (event : Event) (found : Connection × Run) (answer : Result (List ℕ) NetFault)
    (reply : Reply) (after : State G) : Type 0 where
  pub next : Connection
  pub goes_on : GoesOn found.0 found.1 answer (draw_of event) reply next
  pub connections : after.connections ≡ set_value (is_at (nat_cmp event.connection)) state.connections next
  pub env : after.env ≡ state.env
  pub gate : after.gate ≡ state.gate

-- an answer of the network after its first checks: their refusal leaves the service
abbrev pub TakesAnswer : {G : Type 0} → State G → Event → Result (Connection × Run) Cause → Result (List ℕ) NetFault → Reply → State G → Type 0
TakesAnswer state event (Ok found) answer reply after = Resumes state event found answer reply after
TakesAnswer state event (Err cause) answer reply after = (reply ≡ Refused (error_of cause)) × (after ≡ state)

-- an initiator begins, or takes a token of its peer, and all else is unchanged
pub record Initiates {G : Type 0} (state : State G) (event : Event) (connection : Connection) (token : List ℕ) (reply : Reply) (after : State G) : Type 0 where
  pub next : Connection
  pub undertakes : Undertakes connection (options_of connection state.env event.flags token) (draw_of event) reply next
  pub connections : after.connections ≡ set_value (is_at (nat_cmp event.connection)) state.connections next
  pub env : after.env ≡ state.env
  pub gate : after.gate ≡ state.gate

-- an event at an initiator after its first checks: their refusal leaves the service
abbrev pub TakesTurn : {G : Type 0} → State G → Event → Result (Connection × List ℕ) Cause → Reply → State G → Type 0
TakesTurn state event (Ok found) reply after = Initiates state event found.0 found.1 reply after
TakesTurn state event (Err cause) reply after = (reply ≡ Refused (error_of cause)) × (after ≡ state)

module _ {G : Type 0} (admits : G → Ask → Verdict → G → Type 0) where
  -- the acceptor of a connection judges a token: its context, its exchange and the gate take the step, and all else is unchanged
  pub record Judges (state : State G) (event : Event) (connection : Connection) (token : List ℕ) (reply : Reply) (after : State G) : Type 0 where
    pub answer : Result Accepted Cause
    pub server : Kerberos
    pub accepts : AcceptsWhole admits connection.context (asks_dce_style (server_flags event.flags)) token state.env
        (draw_of event) state.gate answer server after.gate
    pub next : Connection
    pub settles : Settles (draw_of event) (record connection { context = server }) (told Elsewhere answer) reply next
    pub connections : after.connections ≡ set_value (is_at (nat_cmp event.connection)) state.connections next
    pub env : after.env ≡ state.env

  -- a token after its first checks: their refusal leaves the service
  abbrev pub Behind : State G → Event → Result (Connection × List ℕ) Cause → Reply → State G → Type 0
  Behind state event (Ok found) reply after = Judges state event found.0 found.1 reply after
  Behind state event (Err cause) reply after = (reply ≡ Refused (error_of cause)) × (after ≡ state)

  -- a possible reply to a token, and the service afterwards
  abbrev pub TakesToken : State G → Event → Reply → State G → Type 0
  TakesToken state event reply after = Behind state event (reached state.connections event) reply after

  -- an event of an exchange with the peer, by the role of its connection
  abbrev pub TakesPart : Bool → State G → Event → Reply → State G → Type 0
  TakesPart true state event reply after = TakesTurn state event (heard state.connections event) reply after
  TakesPart false state event reply after = TakesToken state event reply after

  -- an event of an exchange: an answer of the network, or an event of the exchange with the peer
  abbrev pub StepsOnward : Option (Result (List ℕ) NetFault) → State G → Event → Reply → State G → Type 0
  StepsOnward (Some answer) state event reply after = TakesAnswer state event (awaited state.connections event) answer reply after
  StepsOnward None state event reply after = TakesPart (is_initiator event.connection state.connections) state event reply after

  -- a possible reply to one event, and the service afterwards
  abbrev pub StepsBy : Bool → State G → Event → Reply → State G → Type 0
  StepsBy true state event reply after = AnswersCall state event (ready state.connections event) reply after
  StepsBy false state event reply after = StepsOnward (answer_of event.input) state event reply after

  abbrev pub Steps : State G → Event → Reply → State G → Type 0
  Steps state event reply after = StepsBy (is_call event.input) state event reply after

  -- possible replies to events, one after another, and the service afterwards
  abbrev pub Runs : State G → List Event → List Reply → State G → Type 0
  Runs state [] [] after = after ≡ state
  Runs state [] (reply ∷ replies) after = ⊥
  Runs state (event ∷ events) [] after = ⊥
  Runs state (event ∷ events) (reply ∷ replies) after = (between : State G) × Steps state event reply between × Runs between events replies after

  -- a run whose replies are appended to those that were there
  pub record RunsOn (state : State G) (events : List Event) (old new : List Reply) (after : State G) : Type 0 where
    pub made : List Reply
    pub replies : new ≡ old ++ made
    pub runs : Runs state events made after

  -- one more event, whose reply is appended to those that were there
  abbrev pub StepsOn : State G → Event → List Reply → List Reply → State G → Type 0
  StepsOn state event old new after = (reply : Reply) × (new ≡ old ++ reply ∷ []) × Steps state event reply after

  -- a run that stopped after these events: no caller can distinguish the service from the one after them
  abbrev pub StopsBehind : (G → G → Type 0) → State G → List Event → List Reply → List Reply → State G → Type 0
  StopsBehind is_same state taken old new now = (after : State G) × RunsOn state taken old new after × IsSameState is_same after now
